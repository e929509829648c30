pub mod GeneratorLemmas
pub mod SummaryLemmas
pub mod SumLemmas
