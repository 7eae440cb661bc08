use Rattle.std.proofs.Common.{inr}
use Rattle.std.proofs.lemmas.Result.{err_from_is_err_and}
use Rattle.job_inputs.proofs.InLimit.{documents_in_limit}
use Rattle.job_inputs.specs.Answer.{text_bytes}
use Rattle.edit_session.specs.Answers.{LogsSoFar}
use Rattle.edit_session.specs.Answering.{AnswersLines}
use Rattle.edit_session.proofs.Answered.{on_script, no_document}
use Rattle.edit_session.proofs.answering.answered.Goals as goal

pub answered_on-requires-clause-in_limit : goal.answered_on-requires-clause-in_limit
answered_on-requires-clause-in_limit c =
    documents_in_limit c.args.bytes.now c.in_ok-ontology.ontology c.in_ok-ontology.context c.in_ok-ontology.end
    c.in_ok-ontology.ensures.document

pub returns-in_err-ontology-clause-unread : goal.returns-in_err-ontology-clause-unread
returns-in_err-ontology-clause-unread c =
    let p = err_from_is_err_and c.from_residual.result c.from_residual.ensures.1 in
    rw (p.1, p.2)
    (no_document c.args.budget c.args.bytes.now c.args.log.now _ c.requires.unlogged c.in_err-ontology.ensures.refused)

pub returns-in_err-answer-clause-unread : goal.returns-in_err-answer-clause-unread
returns-in_err-answer-clause-unread c =
    let p = err_from_is_err_and c.from_residual-in_err-answer.result c.from_residual-in_err-answer.ensures.1 in
    let log = c.answered_on.new.log in
    rw (p.1, p.2)
    (inr (on_script (LogsSoFar c.args.budget log) c.args.bytes.now c.split_at.result.1.now c.in_ok-ontology.ontology
    c.in_ok-ontology.context c.in_ok-ontology.end c.in_ok-ontology.ensures.document c.split_at.ensures.back
    c.in_err-answer.ensures.begun))

pub returns-clause-answer : goal.returns-clause-answer
returns-clause-answer c =
    let log = c.answered_on.new.log in
    on_script (AnswersLines c.args.budget log c.in_ok-answer.answer.0 (text_bytes c.in_ok-answer.answer.1))
    c.args.bytes.now c.split_at.result.1.now c.in_ok-ontology.ontology c.in_ok-ontology.context c.in_ok-ontology.end
    c.in_ok-ontology.ensures.document
    c.split_at.ensures.back c.in_ok-answer.ensures.answer
