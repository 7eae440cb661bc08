pub mod Taken
pub mod Gained
pub mod Placed
pub mod Joined
