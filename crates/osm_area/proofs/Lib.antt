pub mod ParityLemmas
pub mod PathLemmas
pub mod SectionLemmas
pub mod SideLemmas
pub mod BoundsLemmas
pub mod RingLemmas
