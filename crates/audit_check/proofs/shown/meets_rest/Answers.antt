use Rattle.std.proofs.Common.{sym, ◌∙◌, arith}
use Rattle.finite_model.specs.ModelLists.{meaning}
use Rattle.audit_check.proofs.Places.{met_here, met_outside, unmet_outside}
use Rattle.audit_check.proofs.shown.meets_rest.Goals as goal
use Rattle.audit_check.proofs.shown.meets_rest.Goals.{else-not-has-via-then-not-has+else-not-meets}
use Rattle.audit_check.proofs.shown.meets_rest.Goals.{else-not-has-via-else-not-has}

pub returns-then-not-meets : goal.returns-then-not-meets
returns-then-not-meets c =
    sym (c.loop-index.invariant
    ∙ unmet_outside (meaning c.args.model.now) c.args.set.now.members c.loop-index.index c.args.ontology.now.axioms
    c.axiom.result.now c.axiom.ensures (sym c.has.ensures ∙ c.if-not-has.true)
    (sym c.meets.ensures ∙ c.if-not-meets.true))

pub loop-index-preserved : goal.loop-index-preserved
loop-index-preserved c =
    let i = meaning c.args.model.now in
    let s = c.args.set.now.members in
    let axioms = c.args.ontology.now.axioms in
    elim c.else-not-has.branch [
      | else-not-has-via-then-not-has+else-not-meets w ↦
          c.loop-index.invariant
          ∙ met_outside i s c.loop-index.index axioms w.axiom.result.now w.axiom.ensures
          (sym c.has.ensures ∙ w.if-not-has.true) (sym w.meets.ensures ∙ w.if-not-meets.false)
      | else-not-has-via-else-not-has w ↦
          c.loop-index.invariant
          ∙ met_here i s c.loop-index.index axioms
          (omega (arith, c.loop-index-test.true, c.axiom_count-index-end.ensures.count))
          (sym c.has.ensures ∙ w.if-not-has.false)
    ]
