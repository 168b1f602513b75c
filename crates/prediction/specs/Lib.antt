pub mod Vectors
pub mod Addresses
pub mod Structures
pub mod Ranges
pub mod Spans
pub mod Extents
pub mod Blocks
pub mod Lines
