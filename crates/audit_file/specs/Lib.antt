pub mod AuditLists
pub mod Following
pub mod AuditText
pub mod Fitting
pub mod Written
pub mod Malformed
