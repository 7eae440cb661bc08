use Rattle.tableau_specs.proofs.Under.{clear_has_none_under}
use Rattle.tableau_specs.proofs.step_laws.no_successor_of_a_clear_node_is_under_a_block.Goals as goal

pub returns : goal.returns
returns c = clear_has_none_under
