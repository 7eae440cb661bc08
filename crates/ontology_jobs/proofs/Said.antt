-- Which statuses replies have.
use Rattle.std.proofs.Common.{◌≡◌, List, ℕ, Bool, true, false, Option, Some, None, Result, Ok, Err, refl, ap, sym, ◌∙◌}
use Rattle.audit_jobs.specs.Audited.{verdict_answer as audit_verdict, end_answer}
use Rattle.audit_jobs.specs.AuditVerdict.{AuditVerdict}
use Rattle.audit_jobs.specs.AuditVerdict.TheVariants as A
use Rattle.job_inputs.specs.declared.unread.Unread.{Unread}
use Rattle.job_inputs.specs.declared.unread.Unread.TheVariants as U
use Rattle.job_inputs.specs.Asked.{Reply, judged, refused_document, refused_query, malformed_line}
use Rattle.job_inputs.specs.Replies.{reply_answer}
use Rattle.job_inputs.specs.Answer.{Answer, complaint_answer}
use Rattle.job_inputs.specs.Complaints.{Complaint, sort_status, complaint}
use Rattle.job_inputs.specs.declared.complaint.Place.{Place}
use Rattle.job_inputs.specs.declared.complaint.Place.TheVariants as P
use Rattle.job_inputs.specs.declared.complaint.Sort.{Sort}
use Rattle.job_inputs.specs.declared.complaint.Sort.TheVariants as S
use Rattle.job_inputs.specs.declared.verdict.Verdict.TheVariants.{NotEntailed, Entailed, Axiom, Query, Line}
use Rattle.job_inputs.specs.declared.status.Status.{Status}
use Rattle.job_inputs.specs.declared.status.Status.TheVariants.{Done, Rejected, BadWords, BadText, Outside, Limit}
use Rattle.job_inputs.specs.declared.status.Status.TheVariants.{ReadFault}
use Rattle.job_inputs.specs.declared.status.Status.TheVariants.{WriteFault, Undecided, NoMemory}

-- whether some reply, or some check of an audit, has the status
abbrev pub is_said : Status → Bool
is_said Done = true
is_said Rejected = true
is_said BadWords = false
is_said BadText = true
is_said Outside = true
is_said Limit = true
is_said ReadFault = false
is_said WriteFault = false
is_said Undecided = false
is_said NoMemory = true

sort_said : (s : Sort) → is_said (sort_status s) ≡ true
sort_said S.BadText = refl
sort_said S.Outside = refl
sort_said S.Limit = refl

complaint_said : (place : Place) (c : Option Complaint) → is_said (complaint_answer place c).0 ≡ true
complaint_said place None = refl
complaint_said place (Some c) = sort_said c.sort

reply_said : (r : Reply) → is_said (reply_answer r).0 ≡ true
reply_said (judged Entailed) = refl
reply_said (judged NotEntailed) = refl
reply_said (judged (Axiom k)) = refl
reply_said (judged Query) = refl
reply_said (judged (Line n)) = refl
reply_said (refused_document e) = complaint_said P.Document (complaint e)
reply_said (refused_query e) = complaint_said P.Query (complaint e)
reply_said (malformed_line n) = refl

-- ---- an audit

verdict_said : (v : AuditVerdict) → is_said (audit_verdict v).0 ≡ true
verdict_said A.Accepted = refl
verdict_said (A.Justification n) = refl
verdict_said (A.Repair n) = refl
verdict_said A.Transversal = refl

end_said : (end : Result AuditVerdict Unread) → is_said (end_answer end).0 ≡ true
end_said (Ok v) = verdict_said v
end_said (Err (U.Document e)) = reply_said (refused_document e)
end_said (Err (U.Query e)) = reply_said (refused_query e)
end_said (Err (U.Line n)) = refl
end_said (Err U.NoMemory) = refl

-- no check of an audit has one of the others
pub not_audited : (s : Status) → is_said s ≡ false → (end : Result AuditVerdict Unread) (out : List ℕ)
    → ◌≡◌ {A = Answer} (s, out) (end_answer end) → ⊥
not_audited s none end out is =
    let clash : false ≡ true = sym none ∙ ap (λ (a : Answer). is_said a.0) is ∙ end_said end in absurd (cc clash)

-- no reply has one of the others
pub not_said : (s : Status) → is_said s ≡ false → (r : Reply) (out : List ℕ)
    → ◌≡◌ {A = Answer} (s, out) (reply_answer r) → ⊥
not_said s none r out is =
    let clash : false ≡ true = sym none ∙ ap (λ (a : Answer). is_said a.0) is ∙ reply_said r in absurd (cc clash)
