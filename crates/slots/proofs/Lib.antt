pub mod Prefix
pub mod EntrySteps
pub mod HeadSteps
pub mod WalkSteps
pub mod SlotSteps
