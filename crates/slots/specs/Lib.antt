pub mod Faults
pub mod Entries
pub mod Heads
pub mod Walks
pub mod Slots
