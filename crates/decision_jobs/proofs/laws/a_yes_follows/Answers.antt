use Rattle.decision_jobs.proofs.Exclusive.{yes_follows}
use Rattle.decision_jobs.proofs.laws.a_yes_follows.Goals as goal

pub returns : goal.returns
returns c = yes_follows
