-- for the crates above
pub mod Parts
pub mod PartsLengths
