use Rattle.search_trace.proofs.GoingBack.{strip_closes}
use Rattle.search_trace.proofs.closing_laws.stripped_lines_close.Goals as goal

pub returns : goal.returns
returns c = strip_closes
