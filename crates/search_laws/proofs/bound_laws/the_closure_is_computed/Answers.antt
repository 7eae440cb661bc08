use Rattle.search_laws.proofs.BoundComputed.{closure_is_computed}
use Rattle.search_laws.proofs.bound_laws.the_closure_is_computed.Goals as goal

pub returns : goal.returns
returns c = closure_is_computed
