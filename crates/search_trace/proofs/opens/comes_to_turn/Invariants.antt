use Rattle.std.proofs.Common.{◌≡◌, ◌≤◌, length, take, reverse}
use Rattle.search_trace.specs.Going.{turns}
use Rattle.search_trace.proofs.opens.comes_to_turn.Given as goal

abbrev pub invariant-loop-left : goal.invariant-loop-left
invariant-loop-left l = (l.left ≤ length l.opens)
    × (turns (reverse (take l.left l.opens)) l.used ≡ turns (reverse l.opens) l.initial.used)

abbrev pub decreases-loop-left : goal.decreases-loop-left
decreases-loop-left l = l.left
