-- for the crates above
pub mod ExampleLaws
pub mod Faults
pub mod Judging
pub mod LendingLaws
pub mod NumberLaws
-- for this crate alone
mod Worked
