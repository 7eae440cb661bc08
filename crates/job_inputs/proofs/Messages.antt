-- The status and the text of a message are its answer.
use Rattle.std.proofs.Common.{◌≡◌, ℕ, List, refl, sym, subst}
use Rattle.job_inputs.specs.Complaints.{sort_status}
use Rattle.job_inputs.specs.Answer.{Gives}
use Rattle.job_inputs.specs.Replies.{message_answer}
use Rattle.job_inputs.specs.declared.complaint.Sort.{Sort}
use Rattle.job_inputs.specs.declared.complaint.Sort.TheVariants as S
use Rattle.job_inputs.specs.declared.verdict.Verdict.TheVariants.{NotEntailed, Entailed, Axiom, Query, Line}
use Rattle.job_inputs.specs.declared.message.Message.{Message}
use Rattle.job_inputs.specs.declared.message.Message.TheVariants.{Judged, Malformed, Refused, NoMemory}
use Rattle.job_inputs.specs.declared.status.Status.{Status}

sort_gives : (s : Sort) (text : List ℕ) → Gives (sort_status s, text) text (sort_status s)
sort_gives S.BadText text = refl
sort_gives S.Outside text = refl
sort_gives S.Limit text = refl

own : (m : Message) → Gives (message_answer m) (message_answer m).1 (message_answer m).0
own (Judged NotEntailed) = refl
own (Judged Entailed) = refl
own (Judged (Axiom k)) = refl
own (Judged Query) = refl
own (Judged (Line n)) = refl
own (Malformed n) = refl
own (Refused place c) = sort_gives c.sort _
own NoMemory = refl

pub gives : (m : Message) (out : List ℕ) (s : Status) → s ≡ (message_answer m).0 → out ≡ (message_answer m).1
    → Gives (message_answer m) out s
gives m out s status text =
    subst (λ o. Gives (message_answer m) o s) (sym text)
    (subst (Gives (message_answer m) (message_answer m).1) (sym status) (own m))
