pub mod OfStore
pub mod OfParts
