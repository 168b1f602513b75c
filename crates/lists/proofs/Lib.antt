-- for the crates above
pub mod Appending
pub mod Booleans
pub mod Slices
pub mod Stepping
-- for this crate alone
mod Worked
