pub mod Tables
pub mod Begun
pub mod NormalTrees
pub mod Everywhere
