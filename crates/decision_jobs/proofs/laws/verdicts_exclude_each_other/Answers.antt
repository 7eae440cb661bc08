use Rattle.decision_jobs.proofs.Exclusive.{verdicts_exclude}
use Rattle.decision_jobs.proofs.laws.verdicts_exclude_each_other.Goals as goal

pub returns : goal.returns
returns c = verdicts_exclude
