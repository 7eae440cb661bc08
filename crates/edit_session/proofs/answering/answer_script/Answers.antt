use Rattle.std.proofs.Common.{}
use Rattle.job_inputs.specs.Answer.{text_bytes}
use Rattle.edit_session.proofs.Answered.{unread_answered, script_answered, script_no_fault}
use Rattle.edit_session.proofs.answering.answer_script.Goals as goal

pub returns-in-Ok-clause-answer : goal.returns-in-Ok-clause-answer
returns-in-Ok-clause-answer c =
    script_answered c.args.budget c.args.bytes.now (text_bytes c.in-Ok.answer.1) c.answered.new.log c.in-Ok.answer.0
    c.in-Ok.ensures.answer

pub returns-in-Ok-clause-no_fault : goal.returns-in-Ok-clause-no_fault
returns-in-Ok-clause-no_fault c =
    script_no_fault c.args.budget c.args.bytes.now (text_bytes c.in-Ok.answer.1) c.answered.new.log c.in-Ok.answer.0
    c.in-Ok.ensures.answer

pub returns-in-Err-clause-answer : goal.returns-in-Err-clause-answer
returns-in-Err-clause-answer c =
    unread_answered c.args.budget c.args.bytes.now (text_bytes c.unread_reply.result.1) c.answered.new.log
    c.unread_reply.result.0 c.in-Err.unread c.in-Err.ensures.unread c.unread_reply.ensures.gives
