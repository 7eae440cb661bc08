use Rattle.tableau_specs.proofs.Reached.{nodes_before}
use Rattle.tableau_specs.proofs.step_laws.nodes_stand_before_they_are_spoken_of.Goals as goal

pub returns : goal.returns
returns c = nodes_before
