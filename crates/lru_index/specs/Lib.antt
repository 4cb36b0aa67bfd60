pub mod Hashing
pub mod Index
pub mod Queries
pub mod Representation
