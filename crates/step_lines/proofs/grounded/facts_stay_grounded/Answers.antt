use Rattle.step_lines.proofs.Going.{facts_stay}
use Rattle.step_lines.proofs.grounded.facts_stay_grounded.Goals as goal

pub returns : goal.returns
returns c = facts_stay
