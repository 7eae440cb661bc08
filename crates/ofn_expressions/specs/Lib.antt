pub mod Counts
pub mod Walk
pub mod Names
pub mod Constructs
pub mod Keywords
pub mod Classes
pub mod Individuals
pub mod Parts
