pub mod Facts
pub mod Kept
pub mod Short
pub mod Entries
pub mod Told
pub mod Laws
