pub mod Restores
pub mod Captures
