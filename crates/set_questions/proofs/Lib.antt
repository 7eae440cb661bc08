pub mod Ordered
pub mod Rest
pub mod Dropped
pub mod InBudget
