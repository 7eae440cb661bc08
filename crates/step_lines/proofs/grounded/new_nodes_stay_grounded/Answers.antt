use Rattle.step_lines.proofs.Going.{new_nodes_stay}
use Rattle.step_lines.proofs.grounded.new_nodes_stay_grounded.Goals as goal

pub returns : goal.returns
returns c = new_nodes_stay
