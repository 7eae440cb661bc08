use Rattle.std.proofs.Common.{}
use Rattle.job_inputs.specs.Questions.{question_text}
use Rattle.job_inputs.proofs.Inputs.{is_input, no_query}
use Rattle.job_inputs.proofs.asking.read_query.Goals as goal

pub returns-in-Ok-clause-input : goal.returns-in-Ok-clause-input
returns-in-Ok-clause-input c =
    is_input (question_text c.args.question) c.args.bytes.now c.args.ontology c.args.context.now
    (record { ontology = c.read_question.new.ontology; query = c.in-Ok.query }) c.requires c.in-Ok.ensures.read

pub returns-in-Err-clause-unread : goal.returns-in-Err-clause-unread
returns-in-Err-clause-unread c =
    no_query (question_text c.args.question) c.args.bytes.now c.args.ontology c.args.context.now c.in-Err.unread
    c.requires c.in-Err.ensures.unread
