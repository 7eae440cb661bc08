use Rattle.std.proofs.lemmas.Result.{err_from_is_err_and}
use Rattle.decision_jobs.proofs.Reasons.{mapped_err}
use Rattle.audit_jobs.proofs.Reasons.{unasked, unaudited}
use Rattle.audit_jobs.proofs.reading.read_claim.Goals as goal

pub returns-in_err-asked-clause-unclaimed : goal.returns-in_err-asked-clause-unclaimed
returns-in_err-asked-clause-unclaimed c =
    let p = err_from_is_err_and c.from_residual.result c.from_residual.ensures.1 in
    rw (p.1, p.2)
    (unasked c.args.ontology.now c.args.context.now c.args.query.now c.args.rest.now c.in_err-asked.field-0.0
    c.in_err-asked.ensures.refused)

pub returns-clause-unclaimed : goal.returns-clause-unclaimed
returns-clause-unclaimed c =
    let q = c.in_ok-asked.ensures.query in
    mapped_err _ c.read_audit-audit.result c.claim_of.result c.claim_of.ensures
    (unaudited c.args.ontology.now c.args.context.now c.args.query.now c.args.rest.now q.0 c.in_ok-asked.asked
    c.query_on.new.ontology q.1 q.2)
    c.read_audit-audit.ensures.unread
