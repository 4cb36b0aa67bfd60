pub mod LruCaps
pub mod Homes
pub mod Units
pub mod Sheds
pub mod Passed
pub mod Answered
mod InTurn
mod Seen
