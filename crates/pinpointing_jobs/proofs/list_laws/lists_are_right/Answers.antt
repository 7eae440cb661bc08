use Rattle.std.proofs.Common.{}
use Rattle.pinpointing_jobs.proofs.Listed.{is_listed}
use Rattle.pinpointing_jobs.proofs.list_laws.lists_are_right.Goals as goal

pub returns : goal.returns
returns c = λ w o q budget log f s out searched. is_listed o q budget log f searched w s out
