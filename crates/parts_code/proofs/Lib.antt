-- for this crate alone
mod HeldLaws
