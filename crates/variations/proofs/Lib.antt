-- any form
pub mod Reaching
pub mod Cutting
pub mod Filling
-- deltas
pub mod Columns
pub mod DeltaBytes
-- points
pub mod GapCuts
pub mod GapBytes
