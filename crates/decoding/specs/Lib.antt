pub mod Cases
pub mod Logs
pub mod Numbers
pub mod WaysBack
