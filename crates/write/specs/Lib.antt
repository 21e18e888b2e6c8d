pub mod Sinks
pub mod Steps
