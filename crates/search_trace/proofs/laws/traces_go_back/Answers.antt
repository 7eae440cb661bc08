use Rattle.search_trace.proofs.Traced.{goes_back}
use Rattle.search_trace.proofs.laws.traces_go_back.Goals as goal

pub returns : goal.returns
returns c = goes_back
