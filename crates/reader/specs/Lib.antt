pub mod Faults
pub mod Tables
pub mod Tuples
pub mod PointWalks
pub mod MoveWalks
pub mod SlotWalks
