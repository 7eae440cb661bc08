-- What is listed is so.
use Rattle.std.specs.Prelude.{◌≡◌, ℕ, ◌≤◌, List}
use Rattle.shq_terms.specs.Listed.{Listed}
use Rattle.shq_terms.specs.declared.axioms.Query.{Query as Asked}
use Rattle.workload.specs.WorkloadText.{workload_text}
use Rattle.query_asker.specs.Entry.{Entry}
use Rattle.job_inputs.specs.declared.status.Status.TheVariants.{Done}
use Rattle.pinpointing_jobs.specs.declared.wanted.Wanted.{Wanted}
use Rattle.job_inputs.specs.Questions.{follows, IsQuestion}
use Rattle.pinpointing_jobs.specs.Answers.{IsPinpointed, workload_query}

-- two finished answers to one question are the same text, whatever the budgets
abbrev pub ListsAreUnique : Type 0
ListsAreUnique = (w : Wanted) (statement : List ℕ) (b c : ℕ) (bytes out text : List ℕ) (log more : List Entry)
    → IsPinpointed w statement b bytes out Done log → IsPinpointed w statement c bytes text Done more → out ≡ text

-- the text of a workload is a document with nothing behind it, and the query of workloads is one on it
abbrev pub WorkloadsAreQuestions : Type 0
WorkloadsAreQuestions = (n : ℕ) → n ≤ 4000
    → (o : Listed) × (q : Asked) × IsQuestion (follows workload_query) (workload_text n) o q
