-- The document and the query of a workload.
use Rattle.std.proofs.Common.{◌≡◌, ℕ, ◌≤◌, List, Result, Ok, Err, refl, subst}
use Rattle.std.specs.Prelude.{IfErr}
use Rattle.job_inputs.specs.declared.unread.Unread.{Unread}
use Rattle.job_inputs.specs.declared.unread.Unread.TheVariants as U
use Rattle.workload.specs.Queries.{IsQueryOn}
use Rattle.workload.specs.WorkloadText.{workload_text}
use Rattle.workload.specs.Laws.{IsWorkload, asked as wanted}
use Rattle.workload.proofs.Whole.{workloads_are_documents}
use Rattle.workload.proofs.Asked.{queries_are_read}
use Rattle.job_inputs.specs.Asked.{refused_document, refused_query}
use Rattle.job_inputs.specs.Questions.{follows, IsQuestion}
use Rattle.job_inputs.proofs.OneReading.{questions_not_refused}
use Rattle.pinpointing_jobs.specs.Asked.{IsNoInput}
use Rattle.pinpointing_jobs.specs.Answers.{workload_query, IsWant}
use Rattle.pinpointing_jobs.specs.Laws.{WorkloadsAreQuestions}

-- ---- the document of a workload

pub workload_question : (n : ℕ) (few : n ≤ 4000)
    → IsQuestion (follows workload_query) (workload_text n) (workloads_are_documents n few).read wanted
workload_question n few = by (queries_are_read n (workload_text n) (workloads_are_documents n few) few)
  where
    w : IsWorkload n (workload_text n)
    w = workloads_are_documents n few

    by : IsQueryOn w.kept w.read workload_query w.read wanted
        → IsQuestion (follows workload_query) (workload_text n) w.read wanted
    by (behind, is_query, listed, same) =
        record {
          document = w.read;
          kept = w.kept;
          counts = behind;
          is_document = record { end = w.end; is_document = w.is_document; alone = w.alone };
          is_asked = is_query;
          both_are = same;
        }

pub workloads_are_questions : WorkloadsAreQuestions
workloads_are_questions n few = ((workloads_are_documents n few).read, wanted, workload_question n few)

-- neither the document nor its query is refused
only_want : (n : ℕ) (u : Unread) → n ≤ 4000 → IsNoInput workload_query (workload_text n) u → u ≡ U.NoMemory
only_want n (U.Document e) few why =
    absurd (questions_not_refused (follows workload_query) (workload_text n) (workloads_are_documents n few).read wanted
    (refused_document e) (workload_question n few) why)
only_want n (U.Query e) few why =
    absurd (questions_not_refused (follows workload_query) (workload_text n) (workloads_are_documents n few).read wanted
    (refused_query e) (workload_question n few) why)
only_want n (U.Line k) few why = absurd why
only_want n U.NoMemory few why = refl

pub all_want : {T : Type 0} (n : ℕ) (bytes : List ℕ) (r : Result T Unread) → IfErr r (IsNoInput workload_query bytes)
    → IfErr r (IsWant n bytes)
all_want n bytes (Ok t) why = tt
all_want n bytes (Err u) why =
    λ same few. only_want n u few (subst (λ b. IsNoInput workload_query b u) same why)
