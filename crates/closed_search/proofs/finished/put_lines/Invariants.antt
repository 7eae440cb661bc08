use Rattle.std.specs.Vec.Iter.{into_iter_items}
use Rattle.closed_search.specs.Finished.{IsPutting}
use Rattle.closed_search.proofs.finished.put_lines.Given as goal

abbrev pub invariant-loop-line : goal.invariant-loop-line
invariant-loop-line l = IsPutting l.initial.refutation l.refutation l.fn.lines.items (into_iter_items l.line-iterator)
