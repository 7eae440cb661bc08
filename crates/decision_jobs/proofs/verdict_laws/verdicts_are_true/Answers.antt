use Rattle.decision_jobs.proofs.Truth.{followed, not_followed}
use Rattle.decision_jobs.proofs.verdict_laws.verdicts_are_true.Goals as goal

pub returns : goal.returns
returns c = λ o q x. (followed o q x, not_followed o q x)
