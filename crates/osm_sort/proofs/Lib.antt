pub mod LengthLemmas
pub mod SortMachineLemmas
