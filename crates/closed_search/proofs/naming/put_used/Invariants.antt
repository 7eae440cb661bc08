use Rattle.std.proofs.Common.{◌≡◌, drop, map}
use Rattle.search_trace.specs.RuleLine.{line_of}
use Rattle.closed_search.specs.Named.{uses_axiom, IsPutting}
use Rattle.closed_search.proofs.naming.put_used.Given as goal

abbrev pub invariant-loop-line : goal.invariant-loop-line
invariant-loop-line l = (l.named.limit ≡ l.initial.named.limit)
    × IsPutting l.set.members uses_axiom (map line_of l.lines) l.initial.named.members l.named.members
    (map line_of (drop l.line-index l.lines))
