use Rattle.search_laws.proofs.Bounds.{few_nodes}
use Rattle.search_laws.proofs.bound_laws.few_nodes.Goals as goal

pub returns : goal.returns
returns c = few_nodes
