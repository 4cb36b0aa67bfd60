pub mod Victims
pub mod Asking
pub mod Entering
pub mod Packed
pub mod Estimates
pub mod Runs
pub mod Kept
