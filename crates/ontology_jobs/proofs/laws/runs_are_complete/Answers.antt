use Rattle.std.proofs.Common.{}
use Rattle.ontology_jobs.proofs.Complete.{jobs_are_done, workloads_are_done}
use Rattle.ontology_jobs.proofs.laws.runs_are_complete.Goals as goal

pub returns : goal.returns
returns c = record { jobs = jobs_are_done; workloads = workloads_are_done }
