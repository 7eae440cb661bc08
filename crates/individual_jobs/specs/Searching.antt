-- How far a run has come that asks why individuals are in a class expression.
use Rattle.std.specs.Prelude.{◌≡◌, ◌↔◌, ℕ, ◌<◌, Bool, true, false, List, [], ◌∷◌, length, map, codes}
use Rattle.std.specs.List.{All, Contains, range_with_len}
use Rattle.lane_sieve.specs.Sets.{NumberSet, passing}
use Rattle.axiom_sets.specs.Sets.{Limited}
use Rattle.pinpointing_specs.specs.LocalModule.{IsLocalModule}
use Rattle.shq_terms.specs.Concept.{Concept}
use Rattle.shq_terms.specs.Listed.{Listed}
use Rattle.shq_terms.specs.declared.axioms.Query.{Query}
use Rattle.job_inputs.specs.Limits.{IsInLimit}
use Rattle.realizer.specs.Entry.{Entry}
use Rattle.job_inputs.specs.Answer.{line}
use Rattle.job_inputs.specs.declared.status.Status.{Status}
use Rattle.job_inputs.specs.declared.status.Status.TheVariants.{Done, Undecided}
use Rattle.individual_jobs.specs.declared.searching.Explained.{Explained}
use Rattle.realizer.specs.Instances.{instance_query, IsInstance}
use Rattle.individual_jobs.specs.ReasonLists.{ReasonLists}
use Rattle.individual_jobs.specs.Reasons.{individual_of, HasAllReasons, reasons_text}
use Rattle.individual_jobs.specs.ReasonLogs.{IsReasonLog, AreShown}
use Rattle.individual_jobs.specs.Ends.{IsEnd}
use Rattle.individual_jobs.specs.Answers.{IsCutShort, IsExplained, IsUnexplained}

-- ---- the questions

-- those of the first individuals of the list
abbrev pub instance_queries : Concept → ℕ → List Query
instance_queries c count = map (instance_query c) (range_with_len 0 count)

-- each is within the limits
abbrev pub AreInLimit : Listed → Concept → Type 0
AreInLimit o c = (a : ℕ) → a < length o.individuals → IsInLimit o (instance_query c a)

-- the local module of each of them: it is the same, since individuals are no part of a signature
abbrev pub IsModuleOfEach : Listed → Concept → NumberSet → Type 0
IsModuleOfEach o c m = (a : ℕ) → IsLocalModule o.axioms (instance_query c a) m

-- ---- the searches

-- what is kept of the justifications of one individual: nothing where there are none, since it is no instance then
abbrev pub reasons_by : ℕ → List Limited → List ReasonLists
reasons_by a [] = []
reasons_by a (j ∷ js) = record { individual = a; justifications = j ∷ js } ∷ []

-- these are the reasons of the instances among the first individuals of the list, in list order
pub record AreReasonsTo (o : Listed) (c : Concept) (count : ℕ) (rs : List ReasonLists) : Type 0 where
  pub test : ℕ → Bool
  pub is_so : (a : ℕ) → a < count → (test a ≡ true ↔ IsInstance o c a)
  pub listed : map individual_of rs ≡ passing test 0 count
  pub reasons : (r : ReasonLists) → Contains rs r → HasAllReasons o c r

-- and the log has a block of each of these individuals, which shows all
pub record HasExplained (o : Listed) (c : Concept) (budget count : ℕ) (rs : List ReasonLists) (log : List Entry)
    : Type 0 where
  pub are_reasons : AreReasonsTo o c count rs
  pub blocks : List (List Entry)
  pub is_log : IsReasonLog o c budget blocks log
  pub count_is : length blocks ≡ count
  pub shown : AreShown o c blocks

-- so it is of one individual more, unless the budget is spent
abbrev pub ExplainsTo : Listed → Concept → ℕ → ℕ → List ReasonLists → List Entry → Bool → Type 0
ExplainsTo o c budget count rs log true = HasExplained o c budget count rs log
ExplainsTo o c budget count rs log false = IsCutShort o c budget log

-- all listed individuals were gone through
abbrev pub ExplainsAll : Listed → Concept → ℕ → List Entry → Explained → Type 0
ExplainsAll o c budget log e = ExplainsTo o c budget (length o.individuals) e.reasons.items log e.finished

-- ---- the text

-- it can be written: the individual is listed, and the sets are of axioms of the ontology
pub record IsWritable (o : Listed) (r : ReasonLists) : Type 0 where
  pub listed : r.individual < length o.individuals
  pub limits : All (λ s. s.limit ≡ length o.axioms) r.justifications

-- the reasons for each individual can be written
abbrev pub AreWritable : Listed → List ReasonLists → Type 0
AreWritable o rs = All (IsWritable o) rs

-- ---- the answer on an ontology

-- what is written of reasons that were found, all of them or not
abbrev pub IsAnswerBy : Listed → List ReasonLists → Bool → Status → List ℕ → Type 0
IsAnswerBy o rs true s out = (s ≡ Done) × (out ≡ reasons_text o rs)
IsAnswerBy o rs false s out = (s ≡ Undecided) × (out ≡ line (codes "undecided"))

-- the end of a run on an ontology: all individuals are explained, or the budget is spent
abbrev pub IsExplainedOn : ℕ → Listed → Concept → List Entry → Status → List ℕ → Type 0
IsExplainedOn budget o c log s out = IsEnd (IsExplained budget out log o c) (IsUnexplained budget out log o c) s
