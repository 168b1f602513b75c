-- for this crate alone
mod ZeroBytes
