use Rattle.calculus_specs.proofs.State.{apart_back}
use Rattle.calculus_specs.proofs.facts.apart_is_symmetric.Goals as goal

pub returns : goal.returns
returns g c = apart_back
