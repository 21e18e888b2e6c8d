mod Lists
mod Chains
mod Begin
mod Deal
mod Behind
mod Choices
mod Enter
mod Filled
mod Laid
mod Entered
mod Admit
mod Shown
mod Full
mod Lying
pub mod Shortness
pub mod Peaked
