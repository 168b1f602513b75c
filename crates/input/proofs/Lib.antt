-- for the crates above
pub mod Pieces
-- for its functions alone
pub mod Feeding
-- for this crate alone
mod Worked
