mod Restoring
pub mod ComesBack
mod RestoredAges
