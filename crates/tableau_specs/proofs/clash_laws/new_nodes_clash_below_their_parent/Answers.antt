use Rattle.tableau_specs.proofs.ClashBlock.{block_clashes}
use Rattle.tableau_specs.proofs.clash_laws.new_nodes_clash_below_their_parent.Goals as goal

pub returns : goal.returns
returns c = block_clashes
