-- What is replied is no fault of reading or writing.
use Rattle.std.proofs.Common.{◌≡◌, false, refl, ap, ◌∙◌}
use Rattle.job_inputs.specs.Complaints.{sort_status}
use Rattle.job_inputs.specs.Answer.{is_fault}
use Rattle.job_inputs.specs.declared.complaint.Sort.{Sort}
use Rattle.job_inputs.specs.declared.complaint.Sort.TheVariants as S
use Rattle.job_inputs.specs.declared.status.Status.{Status}
use Rattle.job_inputs.specs.Replies.{message_answer}
use Rattle.job_inputs.specs.declared.verdict.Verdict.TheVariants.{NotEntailed, Entailed, Axiom, Query, Line}
use Rattle.job_inputs.specs.declared.message.Message.{Message}
use Rattle.job_inputs.specs.declared.message.Message.TheVariants as M

message_no_fault : (m : Message) → is_fault (message_answer m).0 ≡ false
message_no_fault (M.Judged NotEntailed) = refl
message_no_fault (M.Judged Entailed) = refl
message_no_fault (M.Judged (Axiom k)) = refl
message_no_fault (M.Judged Query) = refl
message_no_fault (M.Judged (Line n)) = refl
message_no_fault (M.Malformed n) = refl
message_no_fault (M.Refused place c) = by c.sort
  where
    by : (s : Sort) → is_fault (sort_status s) ≡ false
    by S.BadText = refl
    by S.Outside = refl
    by S.Limit = refl
message_no_fault M.NoMemory = refl

pub reply_no_fault : (m : Message) (s : Status) → s ≡ (message_answer m).0 → is_fault s ≡ false
reply_no_fault m s is = ap is_fault is ∙ message_no_fault m
