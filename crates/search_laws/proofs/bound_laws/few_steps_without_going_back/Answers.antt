use Rattle.search_laws.proofs.BoundLaws.{few_steps_at_first}
use Rattle.search_laws.proofs.bound_laws.few_steps_without_going_back.Goals as goal

pub returns : goal.returns
returns c = few_steps_at_first
