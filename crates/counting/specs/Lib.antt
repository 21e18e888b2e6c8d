pub mod Counted
pub mod PointSets
pub mod Marked
