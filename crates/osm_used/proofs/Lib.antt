pub mod IdLemmas
pub mod UsedLemmas
pub mod UsingLemmas
