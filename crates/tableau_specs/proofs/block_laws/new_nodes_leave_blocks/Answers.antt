use Rattle.tableau_specs.proofs.Agreeing.{blocks_left_by_new}
use Rattle.tableau_specs.proofs.block_laws.new_nodes_leave_blocks.Goals as goal

pub returns : goal.returns
returns c = blocks_left_by_new
