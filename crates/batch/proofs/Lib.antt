-- for the crates above
pub mod Answering
pub mod Before
pub mod BufferLengths
pub mod CommandList
pub mod Measuring
pub mod Numbers
pub mod ReadAlone
pub mod Runs
pub mod Verdicts
pub mod WalkLaws
-- for this crate alone
mod Batches
mod Exactness
