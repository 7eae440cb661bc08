pub mod WorkloadText
pub mod WorkloadAxioms
pub mod Laws
pub use Rattle.ofn_reader.specs.DocumentContext
pub use Rattle.ofn_reader.specs.Queries
