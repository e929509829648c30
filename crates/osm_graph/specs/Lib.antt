pub mod Files
pub mod Graphs
pub mod Joining
pub mod Matching
pub mod Pipes
pub mod Ports
