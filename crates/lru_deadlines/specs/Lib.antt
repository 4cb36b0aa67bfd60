pub mod Codes
pub mod Deadlines
