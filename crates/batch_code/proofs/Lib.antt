-- for this crate alone
mod RowTurn
mod Turns
