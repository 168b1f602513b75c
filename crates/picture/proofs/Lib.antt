-- for the crates above
pub mod Before
pub mod PictureLaws
-- for this crate alone
mod Worked
