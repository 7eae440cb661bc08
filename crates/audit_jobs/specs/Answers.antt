-- What is answered to the question for evidence.
use Rattle.std.specs.Prelude.{◌≡◌, ◌⊎◌, ℕ, Bool, true, false, List, codes}
use Rattle.std.specs.List.{All}
use Rattle.shq_terms.specs.Listed.{Listed}
use Rattle.shq_terms.specs.declared.axioms.Query.{Query as Asked}
use Rattle.refutation_tree.specs.ReadBack.{IsWritable}
use Rattle.run_log.specs.declared.entry.Entry.{Entry}
use Rattle.run_log.specs.Entries.{spent_of}
use Rattle.audit_check.specs.AuditLists.{AuditLists}
use Rattle.audit_check.specs.Fitting.{AreOfAxioms}
use Rattle.audit_check.specs.Written.{audit_text, IsKeptAudit}
use Rattle.audit_check.specs.Justification.{Justification}
use Rattle.audit_check.specs.Sound.{IsSound}
use Rattle.job_inputs.specs.Answer.{line}
use Rattle.job_inputs.specs.declared.status.Status.{Status}
use Rattle.job_inputs.specs.Questions.{follows, IsQuestion}
use Rattle.job_inputs.specs.Refusals.{IsRefused, HasBegun}
use Rattle.pinpointing_jobs.specs.Memory.{UnlessNoMemory}
use Rattle.pinpointing_jobs.specs.Listings.{end_status}
use Rattle.audit_jobs.specs.Witnessed.{IsEvidenceLog, IsUnspentLog, ShowsEvidence, IsCutShort}

-- ---- what is printed

-- The text of a sound audit, over sets of axioms of the ontology and with evidence that can be written, as it is
-- kept: so its lists are exactly all justifications and all repairs, in order.
pub record IsAuditText (o : Listed) (q : Asked) (out : List ℕ) : Type 0 where
  pub audit : AuditLists
  pub text : out ≡ audit_text o audit
  pub sound : IsSound o q audit
  pub of_axioms : AreOfAxioms o audit
  pub refutations : All (λ (j : Justification). IsWritable o j.refutation) audit.justifications
  pub kept : IsKeptAudit o audit

-- a finished search prints an audit, and one that is not finished says so and nothing else
abbrev pub IsEvidenceText : Listed → Asked → List ℕ → Bool → Type 0
IsEvidenceText o q out true = IsAuditText o q out
IsEvidenceText o q out false = out ≡ line (codes "undecided")

-- the text of what a search found, and how the run ends
pub record IsWritten (o : Listed) (q : Asked) (finished : Bool) (s : Status) (out : List ℕ) : Type 0 where
  pub text : IsEvidenceText o q out finished
  pub status : s ≡ end_status finished

-- ---- what is true of it

-- A query was searched. Where the budget sufficed, the log shows all that is printed; where it did not, all of it is
-- spent, and as far as the log shows some justifications are lacking: what was found whole is told.
pub record IsEvidenceAnswer (o : Listed) (q : Asked) (budget : ℕ) (log : List Entry) (s : Status) (out : List ℕ) :
    Type 0 where
  pub finished : Bool
  pub written : IsWritten o q finished s out
  pub honest : IsEvidenceLog o q budget log
  pub shown : finished ≡ true → ShowsEvidence o q log
  pub spent : finished ≡ false → spent_of log ≡ budget
  pub cut_short : finished ≡ false → IsCutShort o q log

-- the statement is a query on the document that the bytes are, and was searched
pub record IsEvidenced (statement : List ℕ) (budget : ℕ) (bytes out : List ℕ) (s : Status) (log : List Entry) :
    Type 0 where
  pub ontology : Listed
  pub query : Asked
  pub is_question : IsQuestion (follows statement) bytes ontology query
  pub answer : IsEvidenceAnswer ontology query budget log s out

-- the document or the statement is refused, or the statement was searched; if memory was refused, no test ended because
-- the budget was spent
abbrev pub AnswersEvidence : List ℕ → ℕ → List ℕ → List ℕ → Status → List Entry → Type 0
AnswersEvidence statement budget bytes out s log =
    UnlessNoMemory s out (HasBegun (follows statement) bytes log (λ o q. IsUnspentLog o q budget log))
    (IsRefused (follows statement) bytes out s log ⊎ IsEvidenced statement budget bytes out s log)
