pub mod Asserted
pub mod Below
pub mod Implied
pub mod Members
pub use Rattle.shq_terms.proofs.Bools
pub use Rattle.shq_terms.proofs.Depth
