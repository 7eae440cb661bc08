use Rattle.search_trace.proofs.ByShape.{rules_by_shape}
use Rattle.search_trace.proofs.closing_laws.rules_follow_shapes.Goals as goal

pub returns : goal.returns
returns c = rules_by_shape
