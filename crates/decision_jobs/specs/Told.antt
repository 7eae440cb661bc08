-- What is told of a question, however its job has answered.
use Rattle.std.proofs.Common.{◌≡◌, ℕ, List, [], inl, inr, sym, subst}
use Rattle.shq_oracle.specs.Entry.{Entry}
use Rattle.shq_oracle.specs.declared.answer.Answer.{Answer as Decision}
use Rattle.shq_oracle.specs.declared.answer.Answer.TheVariants as Answered
use Rattle.job_inputs.specs.Answer.{no_memory}
use Rattle.job_inputs.specs.Answered.{HasAnswered, answered, unread, out_of_memory}
use Rattle.job_inputs.specs.Inputs.{IsInputOf, IsNoInputOf}
use Rattle.job_inputs.specs.Questions.{Text}
use Rattle.job_inputs.specs.Refusals.{nothing, asked}
use Rattle.job_inputs.specs.declared.asking.Input.{Input}
use Rattle.job_inputs.specs.declared.status.Status.{Status}
use Rattle.job_inputs.specs.declared.status.Status.TheVariants.{NoMemory}
use Rattle.job_inputs.proofs.Ends.{question_ends, memory_ends}
use Rattle.decision_jobs.specs.Answering.{IsDecidedBy, IsBegun}
use Rattle.decision_jobs.specs.Decisions.{decision_status, BeginsQuestion, AnswersQuestion, IsDecisionTold}

module _ (question : Text) (budget : ℕ) (bytes out : List ℕ) (log : List Entry) where
  abbrev Tells : Status → Type 0
  Tells s = AnswersQuestion question budget bytes out s log

  memory : BeginsQuestion question budget bytes log → out ≡ no_memory → Tells NoMemory
  memory begun text = record { text = text; log_is = begun }

  -- what was decided of the query of a question answers it
  decided : (i : Input) (s : Status) → IsInputOf question bytes i
      → IsDecidedBy question budget i.ontology i.query log s out → IsDecisionTold question budget bytes out s log
  decided i s read found =
      record {
        ontology = i.ontology;
        query = i.query;
        decision = found.decision;
        is_question = read.is_question;
        text = found.text;
        status = found.status;
        accepted = found.accepted;
        logged = found.logged;
      }

  by_decision : (d : Decision) → IsDecisionTold question budget bytes out (decision_status d) log
      → Tells (decision_status d)
  by_decision (Answered.Entailed r) told = inr told
  by_decision (Answered.NotEntailed m) told = inr told
  by_decision Answered.Undecided told = inr told

  by_status : (s : Status) → IsDecisionTold question budget bytes out s log → Tells s
  by_status s told =
      subst Tells (sym told.status)
      (by_decision told.decision (subst (λ t. IsDecisionTold question budget bytes out t log) told.status told))

  begun : (i : Input) → IsInputOf question bytes i → IsBegun i.ontology i.query budget log
      → BeginsQuestion question budget bytes log
  begun i read (inl none) = nothing none
  begun i read (inr decided) = asked i.ontology i.query read.is_question decided

  pub told_of : (s : Status)
      → HasAnswered (IsInputOf question bytes) (IsNoInputOf question bytes) (λ (l : List Entry). l ≡ [])
      (λ i l s out. IsDecidedBy question budget i.ontology i.query l s out)
      (λ i l. IsBegun i.ontology i.query budget l) log out s
      → Tells s
  told_of s (answered i read so) = by_status s (decided i s read so)
  told_of s (unread u why none is) =
      question_ends Tells out (memory (nothing none)) question bytes log s u none why is inl inl inl
  told_of s (out_of_memory i read so is) = memory_ends Tells out (memory (begun i read so)) s is
