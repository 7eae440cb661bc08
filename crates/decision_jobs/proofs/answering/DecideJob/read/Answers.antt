use Rattle.std.proofs.Common.{}
use Rattle.job_inputs.specs.Questions.{question_text}
use Rattle.decision_jobs.proofs.Asked.{all_can_be_asked}
use Rattle.decision_jobs.proofs.answering.DecideJob.read.Goals as goal

pub returns-clause-within : goal.returns-clause-within
returns-clause-within c =
    all_can_be_asked (question_text c.args.self.now.question) c.args.bytes.now c.read_question_input.result
    c.read_question_input.ensures.input
