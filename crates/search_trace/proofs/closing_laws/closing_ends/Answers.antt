use Rattle.search_trace.proofs.Places.{closing_ended}
use Rattle.search_trace.proofs.closing_laws.closing_ends.Goals as goal

pub returns : goal.returns
returns c = closing_ended
