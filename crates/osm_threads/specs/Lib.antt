pub mod Homes
pub mod Meetings
pub mod Ports
pub mod Rows
pub mod Running
pub mod Starts
pub mod Work
