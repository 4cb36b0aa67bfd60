pub mod Program
pub mod Commands
pub mod Settings
pub mod Storing
pub mod Replies
