use Rattle.std.proofs.Common.{◌-◌}
use Rattle.set_questions.specs.InOrder.{IsBetween}
use Rattle.set_questions.proofs.set_lists.place_in_order.Given as goal

abbrev pub invariant-loop-low : goal.invariant-loop-low
invariant-loop-low l = IsBetween l.sets l.set l.low l.high

abbrev pub decreases-loop-low : goal.decreases-loop-low
decreases-loop-low l = l.high - l.low
