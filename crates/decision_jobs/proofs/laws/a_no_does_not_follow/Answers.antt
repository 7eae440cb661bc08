use Rattle.decision_jobs.proofs.Exclusive.{no_does_not_follow}
use Rattle.decision_jobs.proofs.laws.a_no_does_not_follow.Goals as goal

pub returns : goal.returns
returns c = no_does_not_follow
