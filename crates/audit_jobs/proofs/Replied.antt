-- What is answered to what a check ends with.
use Rattle.std.proofs.Common.{◌≡◌, ℕ, List, false, Result, Ok, Err, refl, ap, sym, ◌∙◌, subst}
use Rattle.std.specs.Prelude.{IfOk, IfErr}
use Rattle.job_inputs.specs.Answer.{Gives, is_fault}
use Rattle.job_inputs.specs.declared.status.Status.{Status}
use Rattle.job_inputs.specs.declared.status.Status.TheVariants.{Done, Rejected, BadWords, BadText, Outside, Limit}
use Rattle.job_inputs.specs.declared.status.Status.TheVariants.{ReadFault, WriteFault, Undecided, NoMemory}
use Rattle.job_inputs.specs.declared.unread.Unread.{Unread}
use Rattle.audit_check.specs.declared.verdict.AuditVerdict.{AuditVerdict}
use Rattle.audit_check.specs.declared.verdict.AuditVerdict.TheVariants.{Accepted, Justification, Repair, Transversal}
use Rattle.audit_jobs.specs.Audited.{IsAuditEnd, IsJudgedOn, verdict_answer, end_answer, Audited}

own : (v : AuditVerdict) → Gives (verdict_answer v) (verdict_answer v).1 (verdict_answer v).0
own Accepted = refl
own (Justification n) = refl
own (Repair n) = refl
own Transversal = refl

pub verdict_gives : (v : AuditVerdict) (out : List ℕ) (s : Status) → s ≡ (verdict_answer v).0
    → out ≡ (verdict_answer v).1 → Gives (verdict_answer v) out s
verdict_gives v out s status text =
    subst (λ o. Gives (verdict_answer v) o s) (sym text)
    (subst (Gives (verdict_answer v) (verdict_answer v).1) (sym status) (own v))

no_fault : (v : AuditVerdict) → is_fault (verdict_answer v).0 ≡ false
no_fault Accepted = refl
no_fault (Justification n) = refl
no_fault (Repair n) = refl
no_fault Transversal = refl

pub verdict_no_fault : (v : AuditVerdict) (s : Status) → s ≡ (verdict_answer v).0 → is_fault s ≡ false
verdict_no_fault v s is = ap is_fault is ∙ no_fault v

end_of : (query bytes : List ℕ) (end : Result AuditVerdict Unread) → IfOk end (IsJudgedOn query bytes)
    → IfErr end (λ u. IsAuditEnd query bytes (Err u)) → IsAuditEnd query bytes end
end_of query bytes (Ok v) judged unread = judged
end_of query bytes (Err u) judged unread = unread

answered : (query bytes : List ℕ) (end : Result AuditVerdict Unread) (out : List ℕ) (s : Status)
    → IsAuditEnd query bytes end → Gives (end_answer end) out s → Audited query bytes out s
answered query bytes end out Done says is = (end, says, is)
answered query bytes end out Rejected says is = (end, says, is)
answered query bytes end out BadWords says is = (end, says, is)
answered query bytes end out BadText says is = (end, says, is)
answered query bytes end out Outside says is = (end, says, is)
answered query bytes end out Limit says is = (end, says, is)
answered query bytes end out ReadFault says is = (end, says, is)
answered query bytes end out WriteFault says is = (end, says, is)
answered query bytes end out Undecided says is = (end, says, is)
answered query bytes end out NoMemory says is = is

pub end_audited : (query bytes : List ℕ) (end : Result AuditVerdict Unread) (out : List ℕ) (s : Status)
    → IfOk end (IsJudgedOn query bytes) → IfErr end (λ u. IsAuditEnd query bytes (Err u)) → Gives (end_answer end) out s
    → Audited query bytes out s
end_audited query bytes end out s judged unread is =
    answered query bytes end out s (end_of query bytes end judged unread) is
