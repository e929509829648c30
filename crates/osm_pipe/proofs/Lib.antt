pub mod PipeLemmas
pub mod RuleLemmas
pub mod SpoolLemmas
