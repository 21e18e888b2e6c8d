pub mod Folds
pub mod Laws
pub mod Feeding
pub mod Batches
