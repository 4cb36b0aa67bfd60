mod Apart
pub mod Counted
pub mod Evicted
mod Heaviest
mod PastLimits
pub mod Replying
mod Stepping
mod Slips
pub mod Meeting
pub mod Accounts
