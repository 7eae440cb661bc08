use Rattle.search_laws.proofs.ClosureConcepts.{concepts_in_closure}
use Rattle.search_laws.proofs.bound_laws.concepts_are_in_the_closure.Goals as goal

pub returns : goal.returns
returns c = concepts_in_closure
