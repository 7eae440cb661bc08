-- Lines of a trace that are kept.
use Rattle.std.specs.Prelude.{ℕ, not, Bool}
use Rattle.std.specs.FinSet as sets
use Rattle.search_trace.specs.declared.lines.TraceLine.{TraceLine}

-- whether the line does not rest on the mark
abbrev pub stays : ℕ → TraceLine → Bool
stays m l = not (sets.contains l.marks m)
