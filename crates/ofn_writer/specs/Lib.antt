pub mod Canonical
pub mod Puts
pub mod Examples
