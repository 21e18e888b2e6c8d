pub mod Slots
pub mod Batches
pub mod Pads
pub mod Sizes
pub mod Whole
