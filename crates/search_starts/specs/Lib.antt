pub mod Normal
pub mod Examples
pub mod Laws
