-- for the crates above
pub mod MemoryLaws
