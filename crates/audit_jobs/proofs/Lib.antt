pub mod Replied
pub mod Reasons
pub mod InLimit
pub mod OneAnswer
mod Keeping
mod Asked
mod TakenOut
mod Putting
mod Sound
mod Witnessed
mod Answered
pub mod Accepted
mod BlankLines
mod Printed
pub use Rattle.decision_jobs.proofs.FirstMalformed
pub use Rattle.decision_jobs.proofs.Logged
pub use Rattle.decision_jobs.proofs.Truth
