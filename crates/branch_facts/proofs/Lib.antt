pub mod Same
pub mod Grown
pub mod Entries
pub mod Reps
pub mod Links
pub mod Found
