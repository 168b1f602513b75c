-- for the crates above
pub mod HeaderLaws
-- for this crate alone
mod Worked
