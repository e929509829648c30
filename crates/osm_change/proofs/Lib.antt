pub mod LatestLemmas
pub mod PlaceLemmas
pub mod SimplifyMachine
