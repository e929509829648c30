mod CountingReader
pub mod GrowthLemmas
pub mod KeyLemmas
pub mod MachineLemmas
pub mod OneInputLemmas
mod PassingMachine
pub mod PortLemmas
pub mod PrefixLemmas
pub mod SortLemmas
pub mod StreamLemmas
