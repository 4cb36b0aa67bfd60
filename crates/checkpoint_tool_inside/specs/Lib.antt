pub mod Requests
pub mod InputRows
pub mod Texts
pub mod Before
pub mod Outcomes
