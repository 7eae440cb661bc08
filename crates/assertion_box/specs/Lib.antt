pub mod Stated
pub mod Entries
pub mod Places
pub mod Laws
pub use Rattle.refutation_truth.specs.Facts
