use Rattle.std.proofs.Common.{◌≡◌, ◌++◌, map, drop}
use Rattle.search_trace.specs.RuleLine.{line_of}
use Rattle.closed_search.proofs.copying.copies.Given as goal

-- what is copied, and what is left to be
abbrev pub invariant-loop-line : goal.invariant-loop-line
invariant-loop-line l =
    map line_of l.copies.items ++ map line_of (drop l.line-index l.lines) ≡ map line_of l.lines
