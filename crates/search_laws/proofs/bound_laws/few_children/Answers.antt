use Rattle.search_laws.proofs.Bounds.{few_children}
use Rattle.search_laws.proofs.bound_laws.few_children.Goals as goal

pub returns : goal.returns
returns c = few_children
