pub mod Escapes
pub mod Nano
pub mod Numbers
pub mod Scanning
pub mod Moments
pub mod Times
