use Rattle.tableau_specs.proofs.Reached.{joins_siblings}
use Rattle.tableau_specs.proofs.step_laws.joins_are_of_siblings.Goals as goal

pub returns : goal.returns
returns c = joins_siblings
