use Rattle.std.proofs.Common.{}
use Rattle.pinpointing_jobs.proofs.Listed.{is_counted}
use Rattle.pinpointing_jobs.proofs.list_laws.counts_are_right.Goals as goal

pub returns : goal.returns
returns c = λ number o q budget log f s out searched. is_counted o q budget log f searched number s out
