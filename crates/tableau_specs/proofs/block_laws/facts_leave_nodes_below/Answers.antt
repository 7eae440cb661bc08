use Rattle.tableau_specs.proofs.Agreeing.{nodes_left_by_all}
use Rattle.tableau_specs.proofs.block_laws.facts_leave_nodes_below.Goals as goal

pub returns : goal.returns
returns c = nodes_left_by_all
