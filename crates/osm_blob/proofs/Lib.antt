pub mod BlobsLemmas
pub mod ContentLemmas
pub mod FramesLemmas
pub mod LeadingLemmas
pub mod WrittenLemmas
