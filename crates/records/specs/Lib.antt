pub mod Alone
pub mod Examples
pub mod Layout
pub mod Numbers
pub mod RecordRules
pub mod Records
