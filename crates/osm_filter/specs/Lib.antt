pub mod Filters
pub mod Filtering
