pub mod Reports
mod Seats
pub mod Logged
mod Ends
