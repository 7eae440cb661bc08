pub mod Replies
pub mod Decided
pub mod Accepted
pub mod Said
pub mod Spending
pub mod Unspent
pub mod Ended
pub mod BadWords
pub mod Complete
pub mod Alike
pub mod Counted
pub mod Done
mod Shown
