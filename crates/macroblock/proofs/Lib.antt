-- for the crates above
pub mod AllowedLaws
pub mod Before
pub mod CaseLaws
pub mod CommandLaws
pub mod Congruence
-- for this crate alone
mod Worked
