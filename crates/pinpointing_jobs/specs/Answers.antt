-- What is answered to the question which sets of axioms are wanted, and to a workload.
use Rattle.std.specs.Prelude.{◌≡◌, ◌⊎◌, ℕ, ◌≤◌, List, codes}
use Rattle.shq_terms.specs.Listed.{Listed}
use Rattle.shq_terms.specs.declared.axioms.Query.{Query as Asked}
use Rattle.workload.specs.WorkloadText.{workload_text}
use Rattle.query_asker.specs.Entry.{Entry}
use Rattle.query_asker.specs.HonestLog.{IsPinpointingLog}
use Rattle.job_inputs.specs.declared.status.Status.{Status}
use Rattle.job_inputs.specs.declared.unread.Unread.{Unread}
use Rattle.job_inputs.specs.declared.unread.Unread.TheVariants.{NoMemory as OutOfMemory}
use Rattle.job_inputs.specs.Questions.{follows, IsQuestion}
use Rattle.job_inputs.specs.Refusals.{IsRefused, HasBegun}
use Rattle.pinpointing_jobs.specs.declared.wanted.Wanted.{Wanted}
use Rattle.pinpointing_jobs.specs.Begun.{IsUnspentLog}
use Rattle.pinpointing_jobs.specs.Listings.{IsListAnswer}
use Rattle.pinpointing_jobs.specs.Counts.{IsCounted}
use Rattle.pinpointing_jobs.specs.Memory.{UnlessNoMemory}

-- ---- lists of sets

-- the statement is a query on the document that the bytes are, and its sets were listed
pub record IsPinpointed (w : Wanted) (statement : List ℕ) (budget : ℕ) (bytes out : List ℕ) (s : Status)
    (log : List Entry) : Type 0 where
  pub ontology : Listed
  pub query : Asked
  pub is_question : IsQuestion (follows statement) bytes ontology query
  pub listed : IsListAnswer w ontology query budget log s out

-- the document or the statement is refused, or its sets were listed
abbrev pub AnswersPinpointing : Wanted → List ℕ → ℕ → List ℕ → List ℕ → Status → List Entry → Type 0
AnswersPinpointing w statement budget bytes out s log =
    UnlessNoMemory s out (HasBegun (follows statement) bytes log (λ o q. IsPinpointingLog o q budget log))
    (IsRefused (follows statement) bytes out s log ⊎ IsPinpointed w statement budget bytes out s log)

-- ---- workloads

-- the query of each workload
abbrev pub workload_query : List ℕ
workload_query = codes "SubClassOf(:Q0 :Q3)"

-- the text of the number is a document, and the sets of its query were counted
pub record IsMeasured (number budget : ℕ) (out : List ℕ) (s : Status) (log : List Entry) : Type 0 where
  pub ontology : Listed
  pub query : Asked
  pub is_question : IsQuestion (follows workload_query) (workload_text number) ontology query
  pub counted : IsCounted number ontology query budget log s out

-- the text of the number and its query are not read for want of memory alone
abbrev pub IsWant : ℕ → List ℕ → Unread → Type 0
IsWant number bytes u = bytes ≡ workload_text number → number ≤ 4000 → u ≡ OutOfMemory

-- what is answered to a workload: its counts, or that memory was refused; then no test ended because the budget was
-- spent
abbrev pub AnswersWorkload : ℕ → ℕ → List ℕ → Status → List Entry → Type 0
AnswersWorkload number budget out s log =
    UnlessNoMemory s out
    (HasBegun (follows workload_query) (workload_text number) log (λ o q. IsUnspentLog o q budget log))
    (IsMeasured number budget out s log)
