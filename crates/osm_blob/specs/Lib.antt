pub mod Blobs
pub mod BlobsSeen
pub mod Frames
pub mod Leading
pub mod LeadingSeen
pub mod Messages
pub mod MessagesSeen
pub mod Written
