pub mod NumberedBranch
pub mod Seen
