use Rattle.tableau_specs.proofs.Parted.{apart_clashes}
use Rattle.tableau_specs.proofs.clash_laws.nodes_apart_clash_where_both_are_counted.Goals as goal

pub returns : goal.returns
returns c = apart_clashes
