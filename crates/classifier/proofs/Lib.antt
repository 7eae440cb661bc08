pub mod Settled
pub use Rattle.subsumption.proofs.Passing
pub use Rattle.subsumption.proofs.Members
pub use Rattle.subsumption.proofs.Same
pub use Rattle.subsumption.proofs.Grouped
