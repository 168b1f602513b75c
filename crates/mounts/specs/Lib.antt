pub mod Claims
pub mod Editions
pub mod Examples
pub mod Layout
pub mod Mounts
pub mod Sheets
pub mod Signs
