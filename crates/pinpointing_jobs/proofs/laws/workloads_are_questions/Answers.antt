use Rattle.std.proofs.Common.{}
use Rattle.pinpointing_jobs.proofs.Asked.{workloads_are_questions}
use Rattle.pinpointing_jobs.proofs.laws.workloads_are_questions.Goals as goal

pub returns : goal.returns
returns c = workloads_are_questions
