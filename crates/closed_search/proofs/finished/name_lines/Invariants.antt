use Rattle.std.specs.Vec.Iter.{into_iter_items}
use Rattle.closed_search.specs.Finished.{IsNamingLines}
use Rattle.closed_search.proofs.finished.name_lines.Given as goal

abbrev pub invariant-loop-line : goal.invariant-loop-line
invariant-loop-line l =
    IsNamingLines l.concepts l.initial.naming l.naming l.fn.lines.items l.yielded (into_iter_items l.line-iterator)
    l.made.items
