pub mod Lines
pub mod Places
pub mod Printable
pub mod Refusals
pub mod Words
