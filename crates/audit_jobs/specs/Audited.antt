-- What is answered to an audit that follows a document.
use Rattle.std.specs.Prelude.{◌≡◌, ℕ, ◌++◌, List, codes, decimal, drop, Result, Ok, Err}
use Rattle.certificate_lines.specs.Malformed.{IsFirstMalformed}
use Rattle.shq_terms.specs.Listed.{Listed}
use Rattle.shq_terms.specs.declared.axioms.Query.{Query as Asked}
use Rattle.audit_check.specs.Limits.{IsInLimit}
use Rattle.ofn_expressions.specs.Counts.{Counts}
use Rattle.ofn_expressions.specs.declared.refusal.Refusal.{Refusal}
use Rattle.ofn_reader.specs.DocumentContext.{DocumentContext}
use Rattle.ofn_reader.specs.Documents.{IsDocument, IsNoDocument}
use Rattle.job_inputs.specs.LimitLaws.{with_names}
use Rattle.job_inputs.specs.Answer.{Answer, IsAnswer, line, no_memory}
use Rattle.job_inputs.specs.Asked.{IsAsked, IsNotAsked}
use Rattle.job_inputs.specs.Replies.{unread_answer}
use Rattle.job_inputs.specs.declared.status.Status.{Status}
use Rattle.job_inputs.specs.declared.status.Status.TheVariants.{Done, Rejected, NoMemory}
use Rattle.job_inputs.specs.declared.unread.Unread.{Unread}
use Rattle.job_inputs.specs.declared.unread.Unread.TheVariants as U
use Rattle.decision_jobs.specs.Certificates.{certificate_lines}
use Rattle.audit_check.specs.AuditLists.{AuditLists, IsOrdered}
use Rattle.audit_check.specs.AuditText.{audit_in}
use Rattle.audit_check.specs.Malformed.{audit_of}
use Rattle.audit_check.specs.Fitting.{Fits}
use Rattle.audit_check.specs.Sound.{ListsAll}
use Rattle.audit_check.specs.Verdicts.{IsVerdict}
use Rattle.audit_check.specs.declared.verdict.AuditVerdict.{AuditVerdict}
use Rattle.audit_check.specs.declared.verdict.AuditVerdict.TheVariants as verdict
use Rattle.audit_jobs.specs.declared.reading.AuditClaim.{AuditClaim}
use Rattle.audit_jobs.specs.declared.reading.AuditInput.{AuditInput}

-- ---- what is judged

-- the audit that the text after a document is, over the names that are listed, or none, with the number of the first
-- malformed line; blank lines in front do not count
abbrev pub audit_after : Listed → List ℕ → Result AuditLists ℕ
audit_after o text = audit_in o (certificate_lines text)

-- the verdict on an audit whose lists are in order, and that the lists of one that is accepted are exactly all
-- justifications and all repairs
pub record IsJudged (o : Listed) (q : Asked) (a : AuditLists) (v : AuditVerdict) : Type 0 where
  pub ordered : IsOrdered a.justifications a.repairs
  pub verdict_is : IsVerdict o q a v
  pub lists_all : v ≡ verdict.Accepted → ListsAll o q a

-- the bytes begin with a document, the query is one on it, and this is the text behind the document
pub record IsAskedOn (query bytes : List ℕ) (both : Listed) (asked : Asked) (rest : List ℕ) : Type 0 where
  pub document : Listed
  pub kept : DocumentContext
  pub end : ℕ
  pub counts : Counts
  pub is_document : IsDocument bytes document kept end
  pub is_query : IsAsked document kept query counts asked
  pub both_are : both ≡ with_names document counts
  pub rest_is : rest ≡ drop end bytes

-- ---- what is answered

-- a document and a query are read, and the text behind the document is an audit, which has this verdict
pub record IsJudgedOn (query bytes : List ℕ) (v : AuditVerdict) : Type 0 where
  pub both : Listed
  pub asked : Asked
  pub rest : List ℕ
  pub audit : AuditLists
  pub is_asked : IsAskedOn query bytes both asked rest
  pub is_audit : audit_after both rest ≡ Ok audit
  pub judged : IsJudged both asked audit v

-- a document and a query are read, and the text behind the document is no audit: this is the number of its first
-- malformed line, with which no audit begins, or that of the line after the last if a line is missing
pub record IsMalformedOn (query bytes : List ℕ) (n : ℕ) : Type 0 where
  pub both : Listed
  pub asked : Asked
  pub rest : List ℕ
  pub is_asked : IsAskedOn query bytes both asked rest
  pub is_first : IsFirstMalformed 1 (audit_of both) (certificate_lines rest) n

-- a document is read, and the query is none on it
pub record IsNoQueryOn (query bytes : List ℕ) (e : Refusal) : Type 0 where
  pub document : Listed
  pub kept : DocumentContext
  pub end : ℕ
  pub is_document : IsDocument bytes document kept end
  pub not_asked : IsNotAsked document kept query e

-- What a check ends with: the verdict on the audit; or why the document, or the query, is refused, or the number of the
-- first malformed line; or memory was refused.
abbrev pub IsAuditEnd : List ℕ → List ℕ → Result AuditVerdict Unread → Type 0
IsAuditEnd query bytes (Ok v) = IsJudgedOn query bytes v
IsAuditEnd query bytes (Err (U.Document e)) = IsNoDocument bytes e
IsAuditEnd query bytes (Err (U.Query e)) = IsNoQueryOn query bytes e
IsAuditEnd query bytes (Err (U.Line n)) = IsMalformedOn query bytes n
IsAuditEnd query bytes (Err U.NoMemory) = Unit {0}

-- the status and the line that a verdict on an audit is told by
abbrev pub verdict_answer : AuditVerdict → Answer
verdict_answer verdict.Accepted = (Done, line (codes "accepted audit"))
verdict_answer (verdict.Justification n) = (Rejected, line (codes "rejected justification " ++ decimal n))
verdict_answer (verdict.Repair n) = (Rejected, line (codes "rejected repair " ++ decimal n))
verdict_answer verdict.Transversal = (Rejected, line (codes "rejected transversal"))

-- the answer to an audit that was judged, or to an input that could not be read
abbrev pub end_answer : Result AuditVerdict Unread → Answer
end_answer (Ok v) = verdict_answer v
end_answer (Err u) = unread_answer u

-- the answer of a check
abbrev pub Audited : List ℕ → List ℕ → List ℕ → Status → Type 0
Audited query bytes out NoMemory = out ≡ no_memory
Audited query bytes out s = (end : Result AuditVerdict Unread) × IsAuditEnd query bytes end
    × IsAnswer (end_answer end) out s

-- ---- while it is read

-- what keeps lines from being an audit, unless memory was refused
abbrev pub IsUnreadBy : Listed → List (List ℕ) → Unread → Type 0
IsUnreadBy o ls (U.Line n) = IsFirstMalformed 1 (audit_of o) ls n
IsUnreadBy o ls (U.Document e) = ⊥
IsUnreadBy o ls (U.Query e) = ⊥
IsUnreadBy o ls U.NoMemory = Unit {0}

-- the query on a document, and the audit that follows the document, over the names of both
pub record IsAuditClaim (o : Listed) (kept : DocumentContext) (query rest : List ℕ) (both : Listed) (claim : AuditClaim)
    : Type 0 where
  pub counts : Counts
  pub is_query : IsAsked o kept query counts claim.asked
  pub both_are : both ≡ with_names o counts
  pub found : audit_after both rest ≡ Ok claim.audit

-- the query is read, and the text after the document is no audit
pub record IsMalformedClaim (o : Listed) (kept : DocumentContext) (query rest : List ℕ) (n : ℕ) : Type 0 where
  pub counts : Counts
  pub asked : Asked
  pub both : Listed
  pub is_query : IsAsked o kept query counts asked
  pub both_are : both ≡ with_names o counts
  pub is_first : IsFirstMalformed 1 (audit_of both) (certificate_lines rest) n

-- why there is no claim on a document, unless memory was refused
abbrev pub IsUnclaimed : Listed → DocumentContext → List ℕ → List ℕ → Unread → Type 0
IsUnclaimed o kept query rest (U.Document e) = ⊥
IsUnclaimed o kept query rest (U.Query e) = IsNotAsked o kept query e
IsUnclaimed o kept query rest (U.Line n) = IsMalformedClaim o kept query rest n
IsUnclaimed o kept query rest U.NoMemory = Unit {0}

-- the input: an ontology, with the query and the audit that are claimed of it
abbrev pub input_with : Listed → AuditClaim → AuditInput
input_with o c = record { ontology = o; asked = c.asked; audit = c.audit }

-- the document, the query and the audit that these texts are
pub record IsAuditInput (query bytes : List ℕ) (input : AuditInput) : Type 0 where
  pub rest : List ℕ
  pub is_asked : IsAskedOn query bytes input.ontology input.asked rest
  pub is_audit : audit_after input.ontology rest ≡ Ok input.audit

-- ontology and query are in limit, and the audit fits them
pub record CanBeJudged (input : AuditInput) : Type 0 where
  pub within : IsInLimit input.ontology input.asked
  pub fits : Fits input.ontology 4294967294 input.audit
