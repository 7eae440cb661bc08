use Rattle.search_trace.proofs.Named.{same_run}
use Rattle.search_trace.proofs.closing_laws.named_parts_serve.Goals as goal

pub returns : goal.returns
returns c = same_run
