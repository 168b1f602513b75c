-- for the crates above
pub mod Numbers
pub mod RecordLaws
pub mod RoundTrips
-- for its functions alone
pub mod AloneTests
pub mod FlagsByte
pub mod Recordable
pub mod Spelling
-- for this crate alone
mod Worked
