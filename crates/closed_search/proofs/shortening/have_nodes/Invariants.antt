use Rattle.std.proofs.Common.{◌≡◌, map, drop}
use Rattle.std.specs.List.{list_all}
use Rattle.search_trace.specs.RuleLine.{line_of}
use Rattle.search_trace.specs.ReadBack.{has_nodes}
use Rattle.closed_search.proofs.shortening.have_nodes.Given as goal

-- all have them when the rest do
abbrev pub invariant-loop-line : goal.invariant-loop-line
invariant-loop-line l =
    list_all has_nodes (map line_of l.lines) ≡ list_all has_nodes (map line_of (drop l.line-index l.lines))
