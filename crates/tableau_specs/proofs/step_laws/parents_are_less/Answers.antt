use Rattle.tableau_specs.proofs.Reached.{parents_less}
use Rattle.tableau_specs.proofs.step_laws.parents_are_less.Goals as goal

pub returns : goal.returns
returns c = parents_less
