pub mod Replies
pub mod Inboxes
pub mod Taking
pub mod Logs
