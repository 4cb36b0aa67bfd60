pub mod Ages
pub mod Codes
pub mod Calls
pub mod Sharded
pub mod Answers
