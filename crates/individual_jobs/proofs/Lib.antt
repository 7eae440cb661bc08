pub mod Members
pub mod Blocks
pub mod Explained
pub mod Asked
pub mod Answered
pub mod Realized
pub mod Unique
pub mod Written
