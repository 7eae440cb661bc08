pub mod Fronts
pub mod Meanings
pub mod Numbering
pub mod Declaring
pub mod Alone
pub mod Faultless
pub mod Refused
pub mod Unique
pub mod OneReason
pub mod Few
pub mod Heads
pub mod Faulty
pub mod Simple
pub mod StillSimple
pub mod Added
mod Examples
