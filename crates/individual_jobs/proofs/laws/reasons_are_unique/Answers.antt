use Rattle.individual_jobs.proofs.Unique.{unique}
use Rattle.individual_jobs.proofs.laws.reasons_are_unique.Goals as goal

pub returns : goal.returns
returns c = unique
