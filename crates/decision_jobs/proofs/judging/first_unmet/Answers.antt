use Rattle.std.proofs.Common.{sym, ◌∙◌}
use Rattle.finite_model.specs.ModelLists.{meaning}
use Rattle.decision_jobs.proofs.Unmet.{unmet_here, met_here}
use Rattle.decision_jobs.proofs.judging.first_unmet.Goals as goal

pub returns-then-not-meets : goal.returns-then-not-meets
returns-then-not-meets c =
    sym (c.loop-index.invariant
    ∙ unmet_here (meaning c.args.model.now) c.loop-index.index c.args.ontology.now.axioms c.axiom.result.now
    c.axiom.ensures (sym c.meets.ensures ∙ c.if-not-meets.true))

pub loop-index-preserved : goal.loop-index-preserved
loop-index-preserved c =
    c.loop-index.invariant
    ∙ met_here (meaning c.args.model.now) c.loop-index.index c.args.ontology.now.axioms c.axiom.result.now
    c.axiom.ensures (sym c.meets.ensures ∙ c.if-not-meets.false)
