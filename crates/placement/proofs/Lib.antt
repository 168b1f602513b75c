-- for the crates above
pub mod Before
pub mod BlockAnswers
pub mod MacroblockLaws
pub mod PositionLaws
pub mod TouchLaws
-- for this crate alone
mod Worked
