use Rattle.std.proofs.Common.{sym, ◌∙◌}
use Rattle.audit_check.proofs.Places.{refuted_or_not}
use Rattle.audit_check.proofs.shown.is_counter_model.Goals as goal

pub returns-then-meets_rest : goal.returns-then-meets_rest
returns-then-meets_rest c =
    refuted_or_not c.args.ontology.now.axioms c.args.query.now c.args.repair.now c.refutes.result c.is_some.result
    c.is_some.ensures c.size.ensures.places (sym c.meets_rest.ensures ∙ c.if-meets_rest.true) c.refutes.ensures
