pub mod Before
pub mod Examples
pub mod Pictures
pub mod Surfaces
