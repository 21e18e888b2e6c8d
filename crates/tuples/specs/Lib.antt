pub mod Choice
pub mod Tents
pub mod Headers
pub mod Data
pub mod Laws
