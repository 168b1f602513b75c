pub mod Memory
pub mod Places
