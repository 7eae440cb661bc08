pub mod Meaning
pub mod Asked
pub mod Listed
pub mod InOrder
pub mod Kept
