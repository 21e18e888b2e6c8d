pub mod Faults
pub mod Ahead
pub mod Runs
pub mod Deltas
pub mod Points
