pub mod Linked
pub mod LinkedLends
pub mod Representation
pub mod Insertions
