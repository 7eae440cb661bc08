-- What is printed is accepted.
use Rattle.std.specs.Prelude.{◌≡◌, ◌≢◌, ℕ, ◌≤◌, true, List, [], ◌∷◌, ◌++◌, length, take, codes, Ok}
use Rattle.shq_terms.specs.Listed.{Listed}
use Rattle.shq_terms.specs.declared.axioms.Query.{Query as Asked}
use Rattle.certificate_lines.specs.Lines.{lines, is_blank}
use Rattle.ofn_reader.specs.DocumentContext.{DocumentContext}
use Rattle.ofn_reader.specs.Documents.{IsDocument}
use Rattle.run_log.specs.declared.entry.Entry.{Entry}
use Rattle.audit_check.specs.AuditLists.{AuditLists}
use Rattle.audit_check.specs.AuditText.{audit_in}
use Rattle.audit_check.specs.Sound.{ListsAll}
use Rattle.audit_check.specs.Verdicts.{IsVerdict}
use Rattle.audit_check.specs.declared.verdict.AuditVerdict.{AuditVerdict}
use Rattle.audit_check.specs.declared.verdict.AuditVerdict.TheVariants as verdict
use Rattle.job_inputs.specs.Answer.{line}
use Rattle.job_inputs.specs.declared.status.Status.{Status}
use Rattle.job_inputs.specs.declared.status.Status.TheVariants.{Done, NoMemory}
use Rattle.job_inputs.specs.Questions.{follows, IsQuestion}
use Rattle.audit_jobs.specs.Answers.{IsEvidenced, AnswersEvidence}
use Rattle.audit_jobs.specs.Audited.{Audited}

-- the text is an audit of the statement on the document, which lists all justifications and all repairs, and no
-- verdict on it is another one than that it is accepted
pub record IsAcceptedText (statement bytes out : List ℕ) : Type 0 where
  pub ontology : Listed
  pub query : Asked
  pub audit : AuditLists
  pub is_question : IsQuestion (follows statement) bytes ontology query
  pub is_read : audit_in ontology (lines out) ≡ Ok audit
  pub lists_all : ListsAll ontology query audit
  pub accepted : (v : AuditVerdict) → IsVerdict ontology query audit v → v ≡ verdict.Accepted

-- what is printed as evidence is accepted as an audit, where its lines are not too many to be numbered
abbrev pub EvidenceIsAccepted : Type 0
EvidenceIsAccepted = (statement : List ℕ) (budget : ℕ) (bytes out : List ℕ) (log : List Entry)
    → IsEvidenced statement budget bytes out Done log → length (lines out) ≤ 4294967293
    → IsAcceptedText statement bytes out

-- ---- the same of what a check answers

-- whitespace that ends with a line feed
pub record AreBlankLines (gap : List ℕ) : Type 0 where
  pub before : List ℕ
  pub made : gap ≡ before ++ 10 ∷ []
  pub blank : is_blank before ≡ true

-- Where the question for evidence was answered with Done, the text of the answer stands behind its document and blank
-- lines, and the whole is as short as a check asks for: whatever a check of it answers, other than that memory was
-- refused, is that the audit is accepted.
abbrev pub PrintedEvidenceIsAccepted : Type 0
PrintedEvidenceIsAccepted =
    (statement : List ℕ) (budget : ℕ) (bytes out : List ℕ) (log : List Entry)
    → AnswersEvidence statement budget bytes out Done log
    → (o : Listed) (kept : DocumentContext) (end : ℕ) → IsDocument bytes o kept end
    → (gap : List ℕ) → AreBlankLines gap → length (take end bytes ++ (gap ++ out)) ≤ 4294967293
    → (answer : List ℕ) (s : Status) → Audited statement (take end bytes ++ (gap ++ out)) answer s → s ≢ NoMemory
    → (s ≡ Done) × (answer ≡ line (codes "accepted audit"))
