-- for the crates above
pub mod Elements
pub mod Fields
pub mod LittleEndian
pub mod Packing
pub mod PartLaws
-- for its functions alone
pub mod Masks
-- for this crate alone
mod Worked
