use Rattle.std.proofs.Common.{}
use Rattle.pinpointing_jobs.proofs.EightAndThree.{eight_and_three, counted}
use Rattle.pinpointing_jobs.proofs.workload_laws.workloads_have_eight_and_three.Goals as goal

pub returns-clause-sets : goal.returns-clause-sets
returns-clause-sets c = eight_and_three

pub returns-clause-numbers : goal.returns-clause-numbers
returns-clause-numbers c = counted
