use Rattle.std.proofs.Common.{length}
use Rattle.audit_check.specs.Verdicts.{JustificationHolds}
use Rattle.audit_check.proofs.Places.{below_more, fails_here}
use Rattle.audit_check.proofs.shown.first_failing_justification.Goals as goal

pub returns-then-not-holds : goal.returns-then-not-holds
returns-then-not-holds c =
    let js = c.args.list.now in
    fails_here (JustificationHolds c.args.ontology.now c.args.query.now js) c.loop-place.place (length js)
    c.loop-place-test.true c.loop-place.invariant c.in_ok-holds.holds c.in_ok-holds.ensures c.if-not-holds.true

pub loop-place-preserved : goal.loop-place-preserved
loop-place-preserved c =
    below_more (JustificationHolds c.args.ontology.now c.args.query.now c.args.list.now) c.loop-place.place
    c.loop-place.invariant (c.in_ok-holds.ensures.0 c.if-not-holds.false)
