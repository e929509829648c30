pub mod Entries
pub mod Pieces
pub mod Integers
pub mod Messages
pub mod Refusals
pub mod Seen
pub mod Varints
pub mod Written
