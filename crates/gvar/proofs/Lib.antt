pub mod Answering
pub mod Replays
