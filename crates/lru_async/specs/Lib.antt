pub mod Orders
pub mod Saving
pub mod Refusals
pub mod Sends
pub mod Logged
pub mod LoggedOrders
pub mod Accounts
pub mod AccountedOrders
