pub mod Cache
pub mod Representation
pub mod Causes
pub mod Lends
pub mod Entries
pub mod Partings
