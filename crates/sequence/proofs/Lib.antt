-- for the crates above
pub mod Before
pub mod JudgingLaws
pub mod SequenceLaws
-- for this crate alone
mod Worked
