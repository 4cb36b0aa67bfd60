pub mod Laid
pub mod Seen
pub mod Shown
pub mod Kept
pub mod Lent
pub mod Exchanged
pub mod Beside
pub mod Inserted
