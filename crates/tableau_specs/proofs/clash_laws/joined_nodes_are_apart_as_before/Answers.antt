use Rattle.tableau_specs.proofs.Itself.{joined_apart_itself}
use Rattle.tableau_specs.proofs.clash_laws.joined_nodes_are_apart_as_before.Goals as goal

pub returns : goal.returns
returns c = joined_apart_itself
