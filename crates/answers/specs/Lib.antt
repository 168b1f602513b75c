pub mod Answers
pub mod Examples
pub mod Lending
pub mod Numbers
pub mod Tables
