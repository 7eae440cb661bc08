pub mod Entries
pub mod Resting
pub mod Places
