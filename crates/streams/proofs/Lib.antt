pub mod Signs
pub mod Steps
pub mod Readings
pub mod Shorts
pub mod RunSteps
pub mod DeltaReading
pub mod PointReading
pub mod PointCounts
