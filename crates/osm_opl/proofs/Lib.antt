pub mod KeepingLemmas
pub mod PullingLemmas
pub mod ReadingLemmas
pub mod StandingLemmas
pub mod UnreadLemmas
pub mod VerdictLemmas
pub mod WrittenLemmas
