-- for this crate alone
mod Judged
mod Remainders
