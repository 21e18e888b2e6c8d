mod Flags
pub mod Packed
mod SharedSets
mod Views
pub mod Marks
mod Parts
mod Ranks
