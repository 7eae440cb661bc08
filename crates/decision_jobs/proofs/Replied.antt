-- What is answered to a verification.
use Rattle.std.proofs.Common.{◌≡◌, ℕ, List, true, false, Bool, Result, Ok, Err, refl, ap, sym, ◌∙◌, subst}
use Rattle.std.specs.Prelude.{IfOk, IfErr}
use Rattle.job_inputs.specs.Answer.{Answer, no_memory, Gives}
use Rattle.job_inputs.specs.declared.status.Status.{Status}
use Rattle.job_inputs.specs.declared.status.Status.TheVariants.{Done, Rejected, BadWords, BadText, Outside, Limit}
use Rattle.job_inputs.specs.declared.status.Status.TheVariants.{ReadFault, WriteFault, Undecided, NoMemory}
use Rattle.job_inputs.specs.Asked.{Reply, judged, refused_document, refused_query, malformed_line}
use Rattle.decision_jobs.specs.Checking.{IsUnread, IsReply}
use Rattle.job_inputs.specs.Replies.{reply_answer, check_answer}
use Rattle.decision_jobs.specs.Checked.{Checked}
use Rattle.job_inputs.specs.declared.verdict.Verdict.{Verdict}
use Rattle.job_inputs.specs.declared.unread.Unread.{Unread}
use Rattle.job_inputs.specs.declared.unread.Unread.TheVariants as U

abbrev is_no_memory : Status → Bool
is_no_memory NoMemory = true
is_no_memory s = false

not_no_memory : (s : Status) → is_no_memory s ≡ false → s ≡ NoMemory → ⊥
not_no_memory s other is = let clash : true ≡ false = ap is_no_memory (sym is) ∙ other in absurd (cc clash)

-- the answer of a reply is one of the verification
reply_checked : (query bytes : List ℕ) (r : Reply) (out : List ℕ) (s : Status) → IsReply query bytes r
    → Gives (reply_answer r) out s → Checked query bytes out s
reply_checked query bytes r out Done says is = (r, says, is)
reply_checked query bytes r out Rejected says is = (r, says, is)
reply_checked query bytes r out BadWords says is = (r, says, is)
reply_checked query bytes r out BadText says is = (r, says, is)
reply_checked query bytes r out Outside says is = (r, says, is)
reply_checked query bytes r out Limit says is = (r, says, is)
reply_checked query bytes r out ReadFault says is = (r, says, is)
reply_checked query bytes r out WriteFault says is = (r, says, is)
reply_checked query bytes r out Undecided says is = (r, says, is)
reply_checked query bytes r out NoMemory says is = is

-- out of memory is an answer of its own
no_memory_checked : (query bytes out : List ℕ) (s : Status) → Gives (NoMemory, no_memory) out s
    → Checked query bytes out s
no_memory_checked query bytes out NoMemory is = is
no_memory_checked query bytes out Done is = absurd (not_no_memory Done refl (ap (λ (a : Answer). a.0) is))
no_memory_checked query bytes out Rejected is = absurd (not_no_memory Rejected refl (ap (λ (a : Answer). a.0) is))
no_memory_checked query bytes out BadWords is = absurd (not_no_memory BadWords refl (ap (λ (a : Answer). a.0) is))
no_memory_checked query bytes out BadText is = absurd (not_no_memory BadText refl (ap (λ (a : Answer). a.0) is))
no_memory_checked query bytes out Outside is = absurd (not_no_memory Outside refl (ap (λ (a : Answer). a.0) is))
no_memory_checked query bytes out Limit is = absurd (not_no_memory Limit refl (ap (λ (a : Answer). a.0) is))
no_memory_checked query bytes out ReadFault is = absurd (not_no_memory ReadFault refl (ap (λ (a : Answer). a.0) is))
no_memory_checked query bytes out Undecided is = absurd (not_no_memory Undecided refl (ap (λ (a : Answer). a.0) is))
no_memory_checked query bytes out WriteFault is = absurd (not_no_memory WriteFault refl (ap (λ (a : Answer). a.0) is))

-- the answer to what a verification ends with is one of the verification
pub ended_checked : (query bytes : List ℕ) (end : Result Verdict Unread) (a : Answer) (out : List ℕ) (s : Status)
    → IfOk end (λ v. IsReply query bytes (judged v)) → IfErr end (IsUnread query bytes) → a ≡ check_answer end
    → Gives a out s
    → Checked query bytes out s
ended_checked query bytes end a out s verdict unread is gives =
    by end verdict unread (subst (λ b. Gives b out s) is gives)
  where
    by : (end : Result Verdict Unread) → IfOk end (λ v. IsReply query bytes (judged v))
        → IfErr end (IsUnread query bytes) → Gives (check_answer end) out s → Checked query bytes out s
    by (Ok v) verdict unread gives = reply_checked query bytes (judged v) out s verdict gives
    by (Err (U.Document e)) verdict unread gives = reply_checked query bytes (refused_document e) out s unread gives
    by (Err (U.Query e)) verdict unread gives = reply_checked query bytes (refused_query e) out s unread gives
    by (Err (U.Line n)) verdict unread gives = reply_checked query bytes (malformed_line n) out s unread gives
    by (Err U.NoMemory) verdict unread gives = no_memory_checked query bytes out s gives
