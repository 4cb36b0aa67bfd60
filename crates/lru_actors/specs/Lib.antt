pub mod Keys
pub mod Messages
pub mod Processing
pub mod Answering
pub mod Turns
pub mod World
