pub mod Choosing
pub mod Words
pub mod Regions
pub mod Headers
pub mod Tying
