pub mod Bounded
pub mod Pipes
pub mod Rule
pub mod Spool
