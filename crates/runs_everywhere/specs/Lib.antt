pub mod Sets
pub mod Names
pub mod Sessions
pub mod Laws
