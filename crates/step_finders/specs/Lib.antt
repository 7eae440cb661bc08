pub mod Found
pub mod Giving
pub mod Reasons
pub mod Filled
pub mod Choosing
pub mod Making
pub mod Stepping
pub mod Clashing
