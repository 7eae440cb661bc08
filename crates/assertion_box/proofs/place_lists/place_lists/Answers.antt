use Rattle.assertion_box.proofs.Placed.{placed_more}
use Rattle.assertion_box.proofs.place_lists.place_lists.Goals as goal

pub loop-place-preserved : goal.loop-place-preserved
loop-place-preserved c = λ a.
    placed_more a c.args.facts.now c.loop-place.place c.ends-first.result.0 c.ends-first.result.1 _ _
    c.ends-first.ensures.first c.ends-first.ensures.last (c.loop-place.invariant a) (c.in_ok-push_place.ensures a)
