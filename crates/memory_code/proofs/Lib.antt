-- for this crate alone
mod CopyLaws
