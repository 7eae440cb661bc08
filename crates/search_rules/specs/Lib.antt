pub mod RuleLists
pub mod Lists
pub mod Files
pub mod Mosts
pub mod Tables
pub mod Queries
pub mod GivenFacts
pub use Rattle.ontology_limits.specs.Limits
