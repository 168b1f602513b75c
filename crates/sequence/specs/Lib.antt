pub mod Before
pub mod Examples
pub mod Judging
pub mod Sequence
pub mod Sound
