pub mod Edges
pub mod Bounds
pub mod Rings
pub mod Areas
