use Rattle.std.proofs.Common.{◌≡◌, map, drop}
use Rattle.std.specs.List.{list_all}
use Rattle.search_trace.specs.RuleLine.{line_of}
use Rattle.search_trace.specs.ReadBack.{is_small}
use Rattle.closed_search.proofs.small.show_small.Given as goal

-- all are small when the rest are
abbrev pub invariant-loop-line : goal.invariant-loop-line
invariant-loop-line l =
    list_all is_small (map line_of l.lines) ≡ list_all is_small (map line_of (drop l.line-index l.lines))
