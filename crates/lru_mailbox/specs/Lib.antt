pub mod Mail
pub mod Slips
pub mod Ledger
pub mod Queue
pub mod Dispatching
pub mod Sending
