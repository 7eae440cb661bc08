use Rattle.std.proofs.Common.{refl}
use Rattle.job_inputs.specs.Answered.{answered, unread, out_of_memory}
use Rattle.job_inputs.proofs.job.answer_to.Goals as goal

pub returns-in-Err-clause-answer : goal.returns-in-Err-clause-answer
returns-in-Err-clause-answer g c =
    g.met.J.Job.told _ _ _ _ _
    (unread c.in-Err.unread c.in-Err.ensures.unread c.requires.unlogged c.unread_reply.ensures.gives)

pub returns-in-Ok-outcome-clause-answer : goal.returns-in-Ok-outcome-clause-answer
returns-in-Ok-outcome-clause-answer g c =
    g.met.J.Job.told _ _ _ _ _
    (answered c.in-Ok.input c.in-Ok.ensures.input c.in-Ok-outcome.ensures.answer)

pub returns-in-Err-outcome-clause-answer : goal.returns-in-Err-outcome-clause-answer
returns-in-Err-outcome-clause-answer g c =
    g.met.J.Job.told _ _ _ _ _
    (out_of_memory c.in-Ok.input c.in-Ok.ensures.input c.in-Err-outcome.ensures.begun refl)
