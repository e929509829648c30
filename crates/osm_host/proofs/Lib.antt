pub mod Entered
pub mod FeedLemmas
pub mod Held
pub mod Named
pub mod Planned
pub mod PullLemmas
pub mod Raised
