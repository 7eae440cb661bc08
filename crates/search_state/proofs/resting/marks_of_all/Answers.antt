use Rattle.search_state.specs.Marked.{marked_in}
use Rattle.search_state.proofs.Holding.{hold_next}
use Rattle.search_state.proofs.resting.marks_of_all.Goals as goal

pub loop-ground-preserved : goal.loop-ground-preserved
loop-ground-preserved g c =
    hold_next c.loop-ground.used c.in_ok-used.used (marked_in c.args.tree.now.entries) c.args.grounds.now
    c.loop-ground.ground-index _ c.loop-ground-test.true c.in_ok-used.ensures.more c.loop-ground.invariant
    c.in_ok-used.ensures.holds
