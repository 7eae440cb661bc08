pub mod Words
pub mod Answers
pub mod Laws
pub mod Complete
pub mod Shown
pub use Rattle.job_inputs.specs.declared.status.Status
pub use Rattle.edit_session.specs.Entry
