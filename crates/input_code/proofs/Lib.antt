-- for this crate alone
mod Endings
mod HeldBytes
mod Lines
mod Texts
mod WordLaws
