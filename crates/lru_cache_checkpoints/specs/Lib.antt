pub mod Restores
pub mod Deadlines
pub mod Ages
pub mod Captures
pub mod CapturedDeadlines
pub mod CapturedAges
