pub mod Shown
pub mod Made
pub mod PutBack
pub mod Seen
