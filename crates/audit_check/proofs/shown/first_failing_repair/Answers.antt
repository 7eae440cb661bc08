use Rattle.std.proofs.Common.{arith}
use Rattle.audit_check.specs.Verdicts.{RepairHolds}
use Rattle.audit_check.proofs.Places.{below_more}
use Rattle.audit_check.proofs.shown.first_failing_repair.Goals as goal

pub loop-place-preserved : goal.loop-place-preserved
loop-place-preserved c =
    below_more (RepairHolds c.args.ontology.now.axioms c.args.query.now c.args.list.now) c.loop-place.place
    c.loop-place.invariant (c.repair_holds.ensures.0 c.if-not-repair_holds.false)

pub returns : goal.returns
returns c =
    λ place lt. c.loop-place.invariant place (omega (arith, lt, c.loop-place-test.false, c.loop-place.auto.place-end))
