pub mod Tents
