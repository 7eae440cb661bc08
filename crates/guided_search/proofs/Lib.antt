pub mod Places
pub mod Alternatives
pub mod Closing
pub mod Unclosed
pub mod Sound
pub mod Everywhere
pub mod WorkedTableau
