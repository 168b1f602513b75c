pub mod Before
pub mod Blocks
pub mod Examples
pub mod Placing
pub mod Progressing
pub mod Touching
