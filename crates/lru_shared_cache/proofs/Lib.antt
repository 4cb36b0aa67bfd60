pub mod Answered
pub mod Begun
pub mod Keeping
pub mod Parted
pub mod MayBe
pub mod Popped
pub mod Seen
pub mod Turned
