use Rattle.realizer.proofs.Unique.{questions_in_limit}
use Rattle.realizer.proofs.realization_laws.instance_questions_are_in_limit.Goals as goal

pub returns : goal.returns
returns c = questions_in_limit
