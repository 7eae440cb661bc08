use Rattle.search_trace.proofs.Chronological.{holds_by_all}
use Rattle.search_trace.proofs.closing_laws.lines_hold_by_all.Goals as goal

pub returns : goal.returns
returns c = holds_by_all
