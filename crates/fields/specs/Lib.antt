pub mod Word
pub mod Bytes
pub mod Parts
pub mod Pieces
