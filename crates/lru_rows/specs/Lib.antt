pub mod Rows
pub mod Representation
