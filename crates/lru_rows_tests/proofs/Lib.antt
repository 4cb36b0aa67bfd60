pub mod Peeks
pub mod Rowed
