pub mod Compiling
pub mod Runs
