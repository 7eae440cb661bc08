-- What is told of a list of sets, however its job has answered.
use Rattle.std.proofs.Common.{◌≡◌, ◌⊎◌, ℕ, Bool, true, false, List, [], inl, inr, sym, subst}
use Rattle.shq_terms.specs.Listed.{Listed}
use Rattle.shq_terms.specs.declared.axioms.Query.{Query as Asked}
use Rattle.query_asker.specs.Entry.{Entry}
use Rattle.query_asker.specs.HonestLog.{IsPinpointingLog}
use Rattle.job_inputs.specs.Answer.{no_memory}
use Rattle.job_inputs.specs.Answered.{HasAnswered, answered, unread, out_of_memory}
use Rattle.job_inputs.specs.Inputs.{IsInputOf, IsNoInputOf}
use Rattle.job_inputs.specs.Questions.{Text, follows}
use Rattle.job_inputs.specs.Refusals.{IsRefused, HasBegun, nothing, asked}
use Rattle.job_inputs.specs.declared.asking.Input.{Input}
use Rattle.job_inputs.specs.declared.status.Status.{Status}
use Rattle.job_inputs.specs.declared.status.Status.TheVariants.{NoMemory}
use Rattle.job_inputs.proofs.Ends.{question_ends, memory_ends}
use Rattle.pinpointing_jobs.specs.declared.wanted.Wanted.{Wanted}
use Rattle.pinpointing_jobs.specs.Begun.{HasSearched}
use Rattle.pinpointing_jobs.specs.Listings.{end_status, IsListAnswer}
use Rattle.pinpointing_jobs.specs.Memory.{UnlessNoMemory}
use Rattle.pinpointing_jobs.specs.Answers.{IsPinpointed, AnswersPinpointing}

-- of a question whose search ends, or does not finish
module _ {E : Type 0} (question : Text) (bytes out : List ℕ) (log : List E) (is_so : Listed → Asked → Type 0)
    (fact : Status → Type 0) where
  abbrev Tells : Status → Type 0
  Tells s =
      UnlessNoMemory s out (HasBegun question bytes log is_so) (IsRefused question bytes out s log ⊎ fact s)

  memory : HasBegun question bytes log is_so → out ≡ no_memory → Tells NoMemory
  memory begun text = record { text = text; log_is = begun }

  by_end : (finished : Bool) → fact (end_status finished) → Tells (end_status finished)
  by_end true so = inr so
  by_end false so = inr so

  begun_of : (i : Input) → IsInputOf question bytes i → (log ≡ []) ⊎ is_so i.ontology i.query
      → HasBegun question bytes log is_so
  begun_of i read (inl none) = nothing none
  begun_of i read (inr so) = asked i.ontology i.query read.is_question so

  pub question_told : (answers : Input → List E → Status → List ℕ → Type 0) (begins : Input → List E → Type 0)
      (finished : (i : Input) (s : Status) → IsInputOf question bytes i → answers i log s out
      → (b : Bool) × (s ≡ end_status b) × fact s)
      (begun : (i : Input) → begins i log → (log ≡ []) ⊎ is_so i.ontology i.query) (s : Status)
      → HasAnswered (IsInputOf question bytes) (IsNoInputOf question bytes) (λ (l : List E). l ≡ []) answers begins
      log out s
      → Tells s
  question_told answers begins finished begun s (answered i read so) =
      let end = finished i s read so in
      subst Tells (sym end.1) (by_end end.0 (subst fact end.1 end.2))
  question_told answers begins finished begun s (unread u why none is) =
      question_ends Tells out (memory (nothing none)) question bytes log s u none why is inl inl inl
  question_told answers begins finished begun s (out_of_memory i read so is) =
      memory_ends Tells out (memory (begun_of i read (begun i so))) s is

pub told_of : (w : Wanted) (statement : List ℕ) (budget : ℕ) (bytes out : List ℕ) (log : List Entry) (s : Status)
    → HasAnswered (IsInputOf (follows statement) bytes) (IsNoInputOf (follows statement) bytes)
    (λ (l : List Entry). l ≡ []) (λ i l s out. IsListAnswer w i.ontology i.query budget l s out)
    (λ i l. HasSearched i.ontology i.query budget l) log out s
    → AnswersPinpointing w statement budget bytes out s log
told_of w statement budget bytes out log s =
    question_told (follows statement) bytes out log (λ o q. IsPinpointingLog o q budget log)
    (λ s. IsPinpointed w statement budget bytes out s log)
    (λ i l s out. IsListAnswer w i.ontology i.query budget l s out) (λ i l. HasSearched i.ontology i.query budget l)
    (λ i s read so. (
      so.finished,
      so.status,
      record {
        ontology = i.ontology;
        query = i.query;
        is_question = read.is_question;
        listed = so;
      },
    ))
    (λ i so. so) s
