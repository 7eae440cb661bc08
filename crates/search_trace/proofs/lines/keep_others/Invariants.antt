use Rattle.std.proofs.lemmas.List.Filters.{FiltersInPlace}
use Rattle.search_trace.specs.Lines.{stays}
use Rattle.search_trace.proofs.lines.keep_others.Given as goal

abbrev pub invariant-loop-i : goal.invariant-loop-i
invariant-loop-i l = FiltersInPlace (stays l.mark) l.initial.lines l.lines l.count l.i
