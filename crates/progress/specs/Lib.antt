pub mod Buffers
pub mod Progress
