use Rattle.run_log.proofs.Told.{answer_is_true}
use Rattle.run_log.proofs.laws.answers_are_true.Goals as goal

pub returns : goal.returns
returns c = answer_is_true
