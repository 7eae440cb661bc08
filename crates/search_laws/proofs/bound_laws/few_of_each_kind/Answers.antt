use Rattle.search_laws.proofs.BoundLaws.{few_of_each_kind}
use Rattle.search_laws.proofs.bound_laws.few_of_each_kind.Goals as goal

pub returns : goal.returns
returns c = few_of_each_kind
