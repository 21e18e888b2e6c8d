pub mod Joining
pub mod Parts
pub mod Tests
pub mod Owed
