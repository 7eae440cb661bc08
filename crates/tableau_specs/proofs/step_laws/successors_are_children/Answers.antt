use Rattle.tableau_specs.proofs.Reached.{successor_is_child}
use Rattle.tableau_specs.proofs.step_laws.successors_are_children.Goals as goal

pub returns : goal.returns
returns c = successor_is_child
