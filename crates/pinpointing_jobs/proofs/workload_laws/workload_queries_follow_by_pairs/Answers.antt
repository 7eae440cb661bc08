use Rattle.std.proofs.Common.{}
use Rattle.pinpointing_jobs.proofs.WorkloadSets.{by_pairs}
use Rattle.pinpointing_jobs.proofs.workload_laws.workload_queries_follow_by_pairs.Goals as goal

pub returns : goal.returns
returns c = by_pairs
