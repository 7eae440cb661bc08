pub mod Named
pub mod Told
pub use Rattle.refutation_truth.proofs.Old
