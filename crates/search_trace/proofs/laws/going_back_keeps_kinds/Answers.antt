use Rattle.search_trace.proofs.KeptKinds.{kinds_kept}
use Rattle.search_trace.proofs.laws.going_back_keeps_kinds.Goals as goal

pub returns : goal.returns
returns c = kinds_kept
