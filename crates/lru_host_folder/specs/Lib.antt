pub mod Calls
pub mod HostInside
pub mod Steps
pub use Rattle.lru_folder.specs.Folder
pub use Rattle.lru_folder.specs.Listings
pub use Rattle.lru_folder.specs.Places
