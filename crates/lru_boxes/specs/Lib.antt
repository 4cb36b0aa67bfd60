pub mod Ties
pub mod Desks
pub mod Putting
