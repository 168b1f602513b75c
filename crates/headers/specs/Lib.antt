pub mod Examples
pub mod Headers
pub mod Words
