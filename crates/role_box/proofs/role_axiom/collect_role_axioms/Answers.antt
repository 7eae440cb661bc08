use Rattle.std.proofs.Common.{arith, ap, length}
use Rattle.role_box.proofs.Collected.{collected_more, found_within}
use Rattle.role_box.proofs.role_axiom.collect_role_axioms.Goals as goal

pub loop-number-preserved : goal.loop-number-preserved
loop-number-preserved c =
    rw c.in_ok-push_role_axiom.ensures
    (collected_more _ _ _ _ _ _ c.loop-number-test.true
    (omega (arith, c.requires c.loop-number.number-index 0 c.loop-number-test.true, ap length c.axioms-all.ensures.all))
    c.index-all-number.is c.loop-number.invariant)

pub returns-clause-listed : goal.returns-clause-listed
returns-clause-listed c =
    found_within _ _ _ _ _ _ _ _ c.axioms-all.ensures.all c.axioms-all.ensures.listed c.loop-number.invariant
