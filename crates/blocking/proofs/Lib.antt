pub mod Labels
pub mod Hinted
pub mod BlockLists
pub mod Sieve
pub mod Touched
pub mod Beyond
