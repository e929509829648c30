pub mod Generator
pub mod Maker
pub mod Summaries
