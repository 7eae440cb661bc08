pub mod Alike
pub mod Grouped
pub mod Same
pub use Rattle.job_inputs.proofs.OneReading
