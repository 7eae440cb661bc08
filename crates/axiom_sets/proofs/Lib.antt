pub mod Kept
pub mod Listed
pub mod Same
pub mod DependencyListed
pub use Rattle.lane_sieve.proofs.Bits
pub use Rattle.lane_sieve.proofs.Ranges
