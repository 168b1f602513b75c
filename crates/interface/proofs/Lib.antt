-- for the crates above
pub mod Demands
pub mod InParts
pub mod MountLaws
pub mod SummaryLaws
pub mod VersionLaws
pub mod WaysBack
