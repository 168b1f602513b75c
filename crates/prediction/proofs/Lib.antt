-- for the crates above
pub mod BlockLaws
pub mod ExtentLaws
pub mod LineLaws
pub mod TwosComplement
-- for its functions alone
pub mod AddressGrows
pub mod CodeRange
pub mod Components
pub mod Integers
pub mod LineCode
-- for this crate alone
mod AddressOnce
mod BlockBytes
mod ChromaInside
mod SpanLaws
mod Worked
