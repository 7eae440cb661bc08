use Rattle.std.proofs.lemmas.Result.{err_from_is_err_and}
use Rattle.job_inputs.specs.Questions.{question_text}
use Rattle.job_inputs.proofs.Inputs.{no_document}
use Rattle.job_inputs.proofs.asking.read_question_input.Goals as goal

pub returns-in_err-ontology-clause-unread : goal.returns-in_err-ontology-clause-unread
returns-in_err-ontology-clause-unread c =
    let p = err_from_is_err_and c.from_residual.result c.from_residual.ensures.1 in
    rw (p.1, p.2) (no_document (question_text c.args.question) c.args.bytes.now _ c.in_err-ontology.ensures.unread)
