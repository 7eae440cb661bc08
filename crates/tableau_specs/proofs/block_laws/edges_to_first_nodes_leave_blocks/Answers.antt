use Rattle.tableau_specs.proofs.Agreeing.{blocks_left_by_edge}
use Rattle.tableau_specs.proofs.block_laws.edges_to_first_nodes_leave_blocks.Goals as goal

pub returns : goal.returns
returns c = blocks_left_by_edge
