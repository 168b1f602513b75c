-- for the crates above
pub mod CommandWords
pub mod CutLaws
pub mod Gathering
pub mod HeaderAnswers
pub mod ListLaws
