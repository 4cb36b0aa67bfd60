pub mod Got
pub mod Made
pub mod Seen
pub mod Walked
pub mod Requested
