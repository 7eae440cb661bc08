use Rattle.search_trace.proofs.Places.{start_is_traced}
use Rattle.search_trace.proofs.closing_laws.start_is_traced.Goals as goal

pub returns : goal.returns
returns c = start_is_traced
