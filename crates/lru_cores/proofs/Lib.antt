pub mod CoreEvicts
pub mod Evicting
pub mod EvictionRuns
pub mod Sparing
pub mod Units
mod CallLaws
pub mod Times
pub mod Moving
pub mod Keeping
pub mod Spilling
pub mod Counting
