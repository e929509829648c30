pub mod Gathered
pub mod Opened
pub mod Untold
pub mod Written
