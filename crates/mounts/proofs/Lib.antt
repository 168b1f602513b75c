-- for the crates above
pub mod EditionLaws
pub mod SheetLaws
pub mod StoredLaws
pub mod SignLaws
pub mod AddLaws
pub mod Agreeing
pub mod Rising
pub mod Finding
pub mod Adding
pub mod Later
-- for this crate alone
mod Worked
