pub mod Trails
pub mod WalkLemmas
pub mod RingLemmas
pub mod TrailLemmas
pub mod PruneLemmas
