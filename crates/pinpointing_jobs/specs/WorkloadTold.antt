-- What is told of a workload, however its job has answered.
use Rattle.std.proofs.Common.{◌≡◌, ℕ, ◌≤◌, Bool, true, false, List, [], sym, subst, inl, inr}
use Rattle.workload.specs.WorkloadText.{workload_text}
use Rattle.query_asker.specs.Entry.{Entry}
use Rattle.job_inputs.specs.Answer.{no_memory, Gives}
use Rattle.job_inputs.specs.Answered.{HasAnswered, answered, unread, out_of_memory}
use Rattle.job_inputs.specs.Questions.{follows, IsQuestion}
use Rattle.job_inputs.specs.Refusals.{HasBegun, nothing, asked}
use Rattle.job_inputs.specs.Replies.{unread_answer}
use Rattle.job_inputs.specs.declared.asking.Input.{Input}
use Rattle.job_inputs.specs.declared.status.Status.{Status}
use Rattle.job_inputs.specs.declared.status.Status.TheVariants.{NoMemory}
use Rattle.job_inputs.proofs.Ends.{memory_ends, want_ends}
use Rattle.pinpointing_jobs.specs.Asked.{IsInput}
use Rattle.pinpointing_jobs.specs.Begun.{IsUnspentLog, HasMeasured}
use Rattle.pinpointing_jobs.specs.Counts.{IsCounted}
use Rattle.pinpointing_jobs.specs.Listings.{end_status}
use Rattle.pinpointing_jobs.specs.Answers.{workload_query, IsMeasured, IsWant, AnswersWorkload}

module _ (number budget : ℕ) (bytes out : List ℕ) (log : List Entry) where
  abbrev Tells : Status → Type 0
  Tells s = AnswersWorkload number budget out s log

  memory : HasBegun (follows workload_query) (workload_text number) log (λ o q. IsUnspentLog o q budget log)
      → out ≡ no_memory → Tells NoMemory
  memory begun text = record { text = text; log_is = begun }

  by_end : (finished : Bool) → IsMeasured number budget out (end_status finished) log → Tells (end_status finished)
  by_end true so = so
  by_end false so = so

  question : (i : Input) → IsInput workload_query bytes i → bytes ≡ workload_text number
      → IsQuestion (follows workload_query) (workload_text number) i.ontology i.query
  question i read same =
      subst (λ b. IsQuestion (follows workload_query) b i.ontology i.query) same read.is_question

  begun : (i : Input) → IsQuestion (follows workload_query) (workload_text number) i.ontology i.query
      → HasMeasured i.ontology i.query budget log
      → HasBegun (follows workload_query) (workload_text number) log (λ o q. IsUnspentLog o q budget log)
  begun i is (inl none) = nothing none
  begun i is (inr so) = asked i.ontology i.query is so

  pub workload_told : (s : Status)
      → HasAnswered (IsInput workload_query bytes) (IsWant number bytes) (λ (l : List Entry). l ≡ [])
      (λ i l s out. IsCounted number i.ontology i.query budget l s out)
      (λ i l. HasMeasured i.ontology i.query budget l) log out s
      → bytes ≡ workload_text number → number ≤ 4000 → Tells s
  workload_told s (answered i read so) same few =
      let measured : IsMeasured number budget out s log =
      record { ontology = i.ontology; query = i.query; is_question = question i read same; counted = so } in
      subst Tells (sym so.status)
      (by_end so.finished (subst (λ t. IsMeasured number budget out t log) so.status measured))
  workload_told s (unread u why none is) same few =
      want_ends Tells out (memory (nothing none)) s (subst (λ v. Gives (unread_answer v) out s) (why same few) is)
  workload_told s (out_of_memory i read so is) same few =
      memory_ends Tells out (memory (begun i (question i read same) so)) s is
