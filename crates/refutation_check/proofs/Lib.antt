mod Within
mod Ranges
mod Grown
mod Begun
mod Children
mod Steps
mod Reading
mod Judged
mod Named
pub mod Checkable
pub use Rattle.refutation_rules.proofs.Entailed
