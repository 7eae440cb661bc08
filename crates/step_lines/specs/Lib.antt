pub mod Serving
pub mod Kinds
pub mod Grounds
