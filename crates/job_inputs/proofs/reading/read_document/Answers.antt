use Rattle.std.proofs.Common.{sym, subst}
use Rattle.std.proofs.lemmas.Result.{err_from_is_err_and}
use Rattle.text_laws.specs.Refusal.TheVariants.{BadShape}
use Rattle.text_laws.proofs.InLimit.{documents_in_limit}
use Rattle.job_inputs.specs.Questions.{IsNotAlone, more}
use Rattle.job_inputs.proofs.Refused.{undocumented}
use Rattle.job_inputs.proofs.reading.read_document.Goals as goal

pub returns-in_err-ontology-clause-unread : goal.returns-in_err-ontology-clause-unread
returns-in_err-ontology-clause-unread c =
    let p = err_from_is_err_and c.from_residual.result c.from_residual.ensures.1 in
    rw (p.1, p.2) (undocumented c.args.bytes.now _ c.in_err-ontology.ensures.refused)

pub returns-in-Some-clause-unread : goal.returns-in-Some-clause-unread
returns-in-Some-clause-unread c =
    let found = c.in-Some.ensures.some in
    let o = c.in_ok-ontology.ontology in
    let kept = c.in_ok-ontology.context in
    let end = c.in_ok-ontology.end in
    subst (λ line. IsNotAlone c.args.bytes.now (BadShape line)) (sym found.2)
    (more o kept end found.0 c.in_ok-ontology.ensures.document found.1)

pub returns-in-None-clause-within : goal.returns-in-None-clause-within
returns-in-None-clause-within c =
    documents_in_limit c.args.bytes.now c.in_ok-ontology.ontology c.in_ok-ontology.context c.in_ok-ontology.end
    c.in_ok-ontology.ensures.document
