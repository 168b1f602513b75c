pub mod Handing
pub mod Mounting
pub mod Promises
pub mod Summaries
pub mod Version
pub mod WaysBack
