pub mod Lines
pub mod Points
pub mod Sections
pub mod Poly
pub mod Seen
