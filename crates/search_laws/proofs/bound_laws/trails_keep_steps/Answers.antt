use Rattle.search_laws.proofs.BoundLaws.{trails_keep_steps}
use Rattle.search_laws.proofs.bound_laws.trails_keep_steps.Goals as goal

pub returns : goal.returns
returns c = trails_keep_steps
