-- for its functions alone
pub mod Going
pub mod TouchedLaws
-- for this crate alone
mod Keeping
mod Taking
