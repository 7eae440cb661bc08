use Rattle.tableau_specs.proofs.Edge.{edge_clashes}
use Rattle.tableau_specs.proofs.clash_laws.edges_clash_where_they_begin.Goals as goal

pub returns : goal.returns
returns c = edge_clashes
