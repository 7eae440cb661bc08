pub mod Worlds
pub mod Finite
pub mod Examples
pub mod Laws
