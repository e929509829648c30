pub mod Sorted
pub mod SortMachine
