-- for the crates above
pub mod DecodingLaws
pub mod DecodingLengths
pub mod Numbers
pub mod WaysBack
-- for its functions alone
pub mod LogLaws
pub mod Outcomes
pub mod RoomLaws
-- for this crate alone
mod Cases
