pub mod Searched
pub mod Asked
pub mod WorkloadSets
pub mod EightAndThree
pub mod Lengths
pub mod Unique
pub mod Whole
pub mod RepairSets
pub mod Listed
mod Union
pub use Rattle.query_asker.proofs.Tested
pub use Rattle.query_asker.proofs.Answering
pub use Rattle.query_asker.proofs.Logged
pub use Rattle.query_asker.proofs.Local
