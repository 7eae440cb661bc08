-- What is told of the individuals of a document, however a job has answered.
use Rattle.std.proofs.Common.{◌≡◌, ℕ, List, [], inl, inr}
use Rattle.shq_terms.specs.Concept.{Concept}
use Rattle.shq_terms.specs.Listed.{Listed}
use Rattle.realizer.specs.Entry.{Entry}
use Rattle.ofn_reader.specs.DocumentContext.{DocumentContext}
use Rattle.job_inputs.specs.Answer.{no_memory}
use Rattle.job_inputs.specs.Answered.{HasAnswered, answered, unread, out_of_memory}
use Rattle.job_inputs.specs.Inputs.{IsInputOf, IsNoInputOf}
use Rattle.job_inputs.specs.Questions.{has_element, IsDocumentAlone, IsUnreadDocument}
use Rattle.job_inputs.specs.Refusals.{HasBegun, nothing, asked}
use Rattle.job_inputs.specs.declared.asking.Input.{Input}
use Rattle.job_inputs.specs.declared.status.Status.{Status}
use Rattle.job_inputs.specs.declared.status.Status.TheVariants.{Done, Rejected, BadWords, BadText, Outside, Limit}
use Rattle.job_inputs.specs.declared.status.Status.TheVariants.{ReadFault, WriteFault, Undecided, NoMemory}
use Rattle.job_inputs.proofs.Ends.{document_ends, question_ends, memory_ends}
use Rattle.individual_jobs.specs.Ends.{IsEnd}
use Rattle.individual_jobs.specs.Answers.{IsExplained, IsUnexplained, HasBlocks, AnswersOnClass, AnswersWhy}
use Rattle.individual_jobs.specs.Realizations.{IsRealizing, BeginsRealization, AnswersRealization}
use Rattle.individual_jobs.specs.Realizations.{IsFound, IsUnfound, IsFinding, AnswersInstances}
use Rattle.individual_jobs.specs.Realizing.{IsRealizedOn, IsFoundOn}
use Rattle.individual_jobs.specs.Searching.{IsExplainedOn}

-- a run that was not refused is done or undecided
by_end : (P : Status → Type 0) (done undecided : Type 0) → (done → P Done) → (undecided → P Undecided) → (s : Status)
    → IsEnd done undecided s → P s
by_end P done undecided d u Done so = d so
by_end P done undecided d u Undecided so = u so
by_end P done undecided d u Rejected so = absurd so
by_end P done undecided d u BadWords so = absurd so
by_end P done undecided d u BadText so = absurd so
by_end P done undecided d u Outside so = absurd so
by_end P done undecided d u Limit so = absurd so
by_end P done undecided d u ReadFault so = absurd so
by_end P done undecided d u WriteFault so = absurd so
by_end P done undecided d u NoMemory so = absurd so

-- ---- types

module _ (budget : ℕ) (bytes out : List ℕ) (log : List Entry) where
  abbrev TellsTypes : Status → Type 0
  TellsTypes s = AnswersRealization budget bytes out s log

  types_memory : BeginsRealization budget bytes log → out ≡ no_memory → TellsTypes NoMemory
  types_memory begun text = record { text = text; log_is = begun }

  pub types_told : (s : Status)
      → HasAnswered (λ (i : Listed × DocumentContext). IsDocumentAlone bytes i.0 i.1) (IsUnreadDocument bytes)
      (λ (l : List Entry). l ≡ []) (λ i l s out. IsRealizedOn budget i.0 l s out) (λ i l. IsRealizing budget l i.0)
      log out s
      → TellsTypes s
  types_told s (answered i d so) =
      by_end TellsTypes _ _
      (λ x. record { ontology = i.0; kept = i.1; is_document = d; so = x })
      (λ x. record { ontology = i.0; kept = i.1; is_document = d; so = x }) s so
  types_told s (unread u why none is) =
      document_ends TellsTypes out (types_memory (inl none)) bytes log s u none why is (λ r. r) (λ r. r) (λ r. r)
  types_told s (out_of_memory i d begun is) =
      memory_ends TellsTypes out
      (types_memory (inr (record { ontology = i.0; kept = i.1; is_document = d; so = begun }))) s is

-- ---- a class expression

module _ (done undecided : List ℕ → List Entry → Listed → Concept → Type 0)
    (begun : List Entry → Listed → Concept → Type 0) (class bytes out : List ℕ) (log : List Entry) where
  abbrev Tells : Status → Type 0
  Tells s = AnswersOnClass (done out log) (undecided out log) (begun log) class bytes out s log

  memory : HasBegun (has_element class) bytes log (λ o q. begun log o q.sub) → out ≡ no_memory → Tells NoMemory
  memory so text = record { text = text; log_is = so }

  class_told : (s : Status)
      → HasAnswered (IsInputOf (has_element class) bytes) (IsNoInputOf (has_element class) bytes)
      (λ (l : List Entry). l ≡ [])
      (λ i l s out. IsEnd (done out l i.ontology i.query.sub) (undecided out l i.ontology i.query.sub) s)
      (λ i l. begun l i.ontology i.query.sub) log out s
      → Tells s
  class_told s (answered i read so) =
      by_end Tells _ _
      (λ x. record { ontology = i.ontology; query = i.query; is_question = read.is_question; so = x })
      (λ x. record { ontology = i.ontology; query = i.query; is_question = read.is_question; so = x }) s so
  class_told s (unread u why none is) =
      question_ends Tells out (memory (nothing none)) (has_element class) bytes log s u none why is
      (λ r. r) (λ r. r) (λ r. r)
  class_told s (out_of_memory i read so is) =
      memory_ends Tells out (memory (asked i.ontology i.query read.is_question so)) s is

pub instances_told : (class : List ℕ) (budget : ℕ) (bytes out : List ℕ) (log : List Entry) (s : Status)
    → HasAnswered (IsInputOf (has_element class) bytes) (IsNoInputOf (has_element class) bytes)
    (λ (l : List Entry). l ≡ []) (λ i l s out. IsFoundOn budget i.ontology i.query.sub l s out)
    (λ i l. IsFinding budget l i.ontology i.query.sub) log out s
    → AnswersInstances class budget bytes out s log
instances_told class budget bytes out log s =
    class_told (IsFound budget) (IsUnfound budget) (IsFinding budget) class bytes out log s

pub reasons_told : (class : List ℕ) (budget : ℕ) (bytes out : List ℕ) (log : List Entry) (s : Status)
    → HasAnswered (IsInputOf (has_element class) bytes) (IsNoInputOf (has_element class) bytes)
    (λ (l : List Entry). l ≡ []) (λ i l s out. IsExplainedOn budget i.ontology i.query.sub l s out)
    (λ i l. HasBlocks i.ontology i.query.sub budget l) log out s
    → AnswersWhy class budget bytes out s log
reasons_told class budget bytes out log s =
    class_told (IsExplained budget) (IsUnexplained budget) (λ l o c. HasBlocks o c budget l) class bytes out log s
