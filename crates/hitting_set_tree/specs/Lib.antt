pub mod Tree
pub mod Open
pub mod Found
pub mod Territory
pub mod Weight
pub use Rattle.set_questions.specs.InOrder
pub use Rattle.set_questions.specs.Meaning
