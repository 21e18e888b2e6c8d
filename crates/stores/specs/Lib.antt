pub mod Parts
pub mod Sizes
