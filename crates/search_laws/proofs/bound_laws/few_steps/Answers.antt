use Rattle.search_laws.proofs.Bounds.{few_steps}
use Rattle.search_laws.proofs.bound_laws.few_steps.Goals as goal

pub returns : goal.returns
returns c = few_steps
