pub mod Lists
pub mod Kept
pub mod Steps
pub mod Counting
pub mod Moves
pub mod Dealing
