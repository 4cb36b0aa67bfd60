pub mod Flushed
pub mod Possibles
pub mod Words
