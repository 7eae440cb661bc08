use Rattle.tableau_specs.proofs.Reached.{not_apart_itself}
use Rattle.tableau_specs.proofs.step_laws.no_node_is_apart_from_itself.Goals as goal

pub returns : goal.returns
returns c = not_apart_itself
