pub mod Rules
pub mod Choices
pub mod TwoInputs
pub mod Heads
pub mod Merging
pub mod Append
