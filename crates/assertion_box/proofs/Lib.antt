pub mod Listing
pub mod Placed
pub mod Answered
