pub mod Changes
pub mod Applying
pub mod Simplified
pub mod Simplifying
