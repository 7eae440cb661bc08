pub mod Local
pub mod Holding
pub mod Logged
pub mod Remembered
pub mod Answering
pub mod Tested
pub mod Begun
pub use Rattle.set_questions.proofs.Ordered
