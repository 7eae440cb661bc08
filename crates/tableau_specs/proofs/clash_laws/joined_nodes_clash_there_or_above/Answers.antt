use Rattle.tableau_specs.proofs.Join.{join_clashes}
use Rattle.tableau_specs.proofs.clash_laws.joined_nodes_clash_there_or_above.Goals as goal

pub returns : goal.returns
returns c = join_clashes
