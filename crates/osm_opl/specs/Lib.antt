pub mod Found
pub mod Passing
pub mod Reader
pub mod ReaderSeen
pub mod Standing
pub mod Unread
pub mod UnreadSeen
pub mod Written
