mod Parts
pub mod Position
pub mod Cut
pub mod Uses
pub mod Distinct
pub mod Added
pub use Rattle.shq_base.proofs.Bools
pub use Rattle.shq_base.proofs.Depth
