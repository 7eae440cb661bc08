use Rattle.calculus_specs.proofs.Joined.{rep_is_least}
use Rattle.calculus_specs.proofs.facts.representatives_are_least.Goals as goal

pub returns : goal.returns
returns g c = rep_is_least
