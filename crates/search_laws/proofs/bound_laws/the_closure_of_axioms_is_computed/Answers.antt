use Rattle.search_laws.proofs.Bounds.{closure_of_axioms_is_computed}
use Rattle.search_laws.proofs.bound_laws.the_closure_of_axioms_is_computed.Goals as goal

pub returns : goal.returns
returns c = closure_of_axioms_is_computed
