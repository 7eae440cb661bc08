pub mod Open
pub mod Verdicts
pub mod Steps
pub mod Checkable
pub use Rattle.ontology_limits.specs.Limits
pub use Rattle.refutation_rules.specs.Theory
