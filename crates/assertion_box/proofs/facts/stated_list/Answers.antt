use Rattle.std.proofs.Common.{arith, ap, length}
use Rattle.assertion_box.proofs.Listing.{stated_more}
use Rattle.assertion_box.proofs.facts.stated_list.Goals as goal

pub loop-number-preserved : goal.loop-number-preserved
loop-number-preserved c =
    rw c.in_ok-push_axiom.ensures
    (stated_more _ _ _ _ _ _ c.loop-number-test.true
    (omega (arith, c.requires c.loop-number.number-index 0 c.loop-number-test.true, ap length c.axioms-all.ensures.all))
    c.index-all-number.is c.loop-number.invariant)
