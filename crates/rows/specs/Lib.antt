pub mod Rows
pub mod Steps
pub mod Touching
pub mod Words
pub mod Keeping
