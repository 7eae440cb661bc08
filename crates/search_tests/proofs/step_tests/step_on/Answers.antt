use Rattle.std.proofs.Common.{arith}
use Rattle.tableau.proofs.Kept.{moved_event}
use Rattle.search_tests.proofs.step_tests.step_on.Goals as goal

pub loop-made-preserved : goal.loop-made-preserved
loop-made-preserved g c =
    let event =
    moved_event c.loop-made.search c.step.new.self c.in_ok-step.field-0 c.in-Moved.is c.in_ok-step.ensures.event in
    record {
      counted = omega (arith, event.counted, c.loop-made.invariant.counted);
      goes_on = event.goes_on;
      whole = c.in_ok-step.ensures.whole;
    }
