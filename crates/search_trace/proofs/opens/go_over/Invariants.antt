use Rattle.std.proofs.Common.{length}
use Rattle.search_trace.specs.Going.{IsGoing}
use Rattle.search_trace.proofs.opens.go_over.Given as goal

abbrev pub invariant-loop-latest : goal.invariant-loop-latest
invariant-loop-latest l =
    IsGoing l.initial.lines.items l.initial.opens.items l.initial.used l.lines.items l.opens.items l.used

abbrev pub decreases-loop-latest : goal.decreases-loop-latest
decreases-loop-latest l = length l.opens.items
