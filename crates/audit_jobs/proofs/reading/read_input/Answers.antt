use Rattle.std.proofs.Common.{subst}
use Rattle.std.proofs.lemmas.Result.{err_from_is_err_and}
use Rattle.decision_jobs.proofs.Reasons.{mapped_err}
use Rattle.audit_jobs.specs.Audited.{IsAuditClaim, IsUnclaimed, IsAuditInput, input_with}
use Rattle.audit_jobs.proofs.Reasons.{mapped_ok, undocumented, unclaimed, claimed}
use Rattle.audit_jobs.proofs.InLimit.{input_in_limit}
use Rattle.audit_jobs.proofs.reading.read_input.Goals as goal

pub returns-in_err-ontology-clause-unread : goal.returns-in_err-ontology-clause-unread
returns-in_err-ontology-clause-unread c =
    let p = err_from_is_err_and c.from_residual.result c.from_residual.ensures.1 in
    rw (p.1, p.2) (undocumented c.args.query.now _ _ c.in_err-ontology.ensures.refused)

pub returns-clause-unread : goal.returns-clause-unread
returns-clause-unread c =
    let o = c.in_ok-ontology.ontology in
    let nodes = c.in_ok-ontology.context in
    let query = c.args.query.now in
    mapped_err _ c.read_claim-claim.result c.input_of.result c.input_of.ensures
    (λ u why. unclaimed query _ o nodes c.in_ok-ontology.end c.in_ok-ontology.ensures.document u
    (subst (λ rest. IsUnclaimed o nodes query rest u) c.split_at.ensures.back why))
    c.read_claim-claim.ensures.unclaimed

pub returns-clause-input : goal.returns-clause-input
returns-clause-input c =
    let o = c.in_ok-ontology.ontology in
    let nodes = c.in_ok-ontology.context in
    let query = c.args.query.now in
    let both = c.read_claim-claim.new.ontology in
    mapped_ok (input_with both) (IsAuditClaim o nodes query c.split_at.result.1.now both)
    (IsAuditInput query c.args.bytes.now) c.read_claim-claim.result c.input_of.result c.input_of.ensures
    (λ x claim. claimed query c.args.bytes.now o nodes c.in_ok-ontology.end c.in_ok-ontology.ensures.document both x
    (subst (λ rest. IsAuditClaim o nodes query rest both x) c.split_at.ensures.back claim))
    c.read_claim-claim.ensures.claim

pub returns-clause-within : goal.returns-clause-within
returns-clause-within c =
    let o = c.in_ok-ontology.ontology in
    let claim = c.read_claim-claim in
    input_in_limit c.args.query.now c.args.bytes.now c.split_at.result.1.now o c.in_ok-ontology.context
    c.in_ok-ontology.end c.in_ok-ontology.ensures.document claim.new.ontology claim.result c.input_of.result
    c.input_of.ensures
    claim.ensures.claim claim.ensures.fits
