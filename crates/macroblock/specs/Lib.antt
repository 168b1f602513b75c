pub mod Before
pub mod Cases
pub mod Examples
pub mod Legal
pub mod Macroblocks
pub mod Rules
