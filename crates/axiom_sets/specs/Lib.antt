pub mod Sets
pub mod Compared
pub mod Marks
pub use Rattle.lane_sieve.specs.Sets as NumberSets
