use Rattle.search_trace.proofs.Traced.{goes_on}
use Rattle.search_trace.proofs.laws.traces_go_on.Goals as goal

pub returns : goal.returns
returns c = goes_on
