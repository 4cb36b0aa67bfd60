mod NewRows
mod PresentRows
mod Views
pub mod Rows
pub mod Refusals
pub mod Edits
pub mod LastRows
pub mod EditsOf
pub mod Places
pub mod UnitCalls
pub mod Pulls
pub mod Circle
pub mod Told
