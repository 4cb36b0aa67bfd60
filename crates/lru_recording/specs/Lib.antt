pub mod Plain
pub mod Histories
pub mod Replies
pub mod Gathered
pub mod Ties
pub mod Stamps
pub mod Tied
pub mod Probes
