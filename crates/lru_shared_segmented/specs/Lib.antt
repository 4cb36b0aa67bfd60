pub mod Calls
pub mod Making
pub mod Sharded
pub mod Answers
pub mod Walks
