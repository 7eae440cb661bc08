pub mod Trail
pub mod Marks
pub use Rattle.fact_tree.specs.Entries
