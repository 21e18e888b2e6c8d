pub mod Indices
pub mod Marks
pub mod Sizes
pub mod Spans
pub mod Peaks
pub mod Stores
pub mod Pieces
pub mod Sets
