pub mod LruCalls
pub mod Sheds
pub mod Batches
