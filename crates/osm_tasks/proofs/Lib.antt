pub mod KindLemmas
pub mod PipeLemmas
pub mod ResolveLemmas
pub mod WordLemmas
