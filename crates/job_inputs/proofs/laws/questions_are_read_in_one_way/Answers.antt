use Rattle.std.proofs.Common.{}
use Rattle.job_inputs.proofs.OneReading.{questions, questions_not_refused, question_refusals}
use Rattle.job_inputs.proofs.laws.questions_are_read_in_one_way.Goals as goal

pub returns : goal.returns
returns c = record { one = questions; not_refused = questions_not_refused; one_reason = question_refusals }
