use Rattle.std.proofs.Common.{map}
use Rattle.search_trace.specs.RuleLine.{line_of}
use Rattle.closed_search.proofs.Among.{IsPuttingSome}
use Rattle.closed_search.proofs.copying.kept_lines.Given as goal

-- what is put, and what is left to be
abbrev pub invariant-loop-place : goal.invariant-loop-place
invariant-loop-place l = IsPuttingSome l.keep l.lines l.place (map line_of l.kept.items)
