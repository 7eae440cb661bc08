-- What is answered to the question why the individuals of a document are in a class expression.
use Rattle.std.specs.Prelude.{◌≡◌, ℕ, ◌-◌, ◌<◌, ◌≤◌, List, [], ◌∷◌, codes, length, take, drop}
use Rattle.std.specs.List.{Contains}
use Rattle.axiom_sets.specs.Sets.{Limited}
use Rattle.shq_terms.specs.Concept.{Concept}
use Rattle.shq_terms.specs.Listed.{Listed}
use Rattle.shq_terms.specs.declared.axioms.Query.{Query as Asked}
use Rattle.realizer.specs.Entry.{Entry}
use Rattle.realizer.specs.Entries.{spent_of}
use Rattle.realizer.specs.HonestLog.{IsJustificationSet}
use Rattle.job_inputs.specs.Answer.{line}
use Rattle.job_inputs.specs.Questions.{has_element, IsQuestion}
use Rattle.job_inputs.specs.Refusals.{IsRefused, HasBegun, IsOutOfMemory}
use Rattle.job_inputs.specs.declared.status.Status.{Status}
use Rattle.job_inputs.specs.declared.status.Status.TheVariants.{Done, Rejected, BadWords, BadText, Outside, Limit}
use Rattle.job_inputs.specs.declared.status.Status.TheVariants.{ReadFault, WriteFault, Undecided, NoMemory}
use Rattle.pinpointing_jobs.specs.Known.{AreKnown}
use Rattle.realizer.specs.Instances.{instance_query}
use Rattle.individual_jobs.specs.ReasonLists.{ReasonLists}
use Rattle.individual_jobs.specs.Reasons.{AreReasons, reasons_text}
use Rattle.individual_jobs.specs.ReasonLogs.{IsReasonLog, AreShown}

-- ---- all of them

-- the text is that of the instances and all their justifications, and the log has an honest block for each listed
-- individual, which shows what is said of it
pub record IsExplained (budget : ℕ) (out : List ℕ) (log : List Entry) (o : Listed) (c : Concept) : Type 0 where
  pub reasons : List ReasonLists
  pub are_reasons : AreReasons o c reasons
  pub text : out ≡ reasons_text o reasons
  pub blocks : List (List Entry)
  pub is_log : IsReasonLog o c budget blocks log
  pub whole : length blocks ≡ length o.individuals
  pub shown : AreShown o c blocks

-- ---- where the budget is spent

-- a block that does not show all justifications of its query: the nodes are those of a hitting-set tree by these
-- justifications, which are all that it shows, and some are lacking as far as it shows
pub record IsLeftOpen (o : Listed) (q : Asked) (block : List Entry) : Type 0 where
  pub found : List Limited
  pub are_justifications : (j : Limited) → Contains found j → IsJustificationSet o q j
  pub known : AreKnown o q block found

-- the last search of a run, of the individual at which it stopped, was not begun or is left open, and there is no other
abbrev pub StopsAt : Listed → Asked → List (List Entry) → Type 0
StopsAt o q [] = Unit {0}
StopsAt o q (block ∷ []) = IsLeftOpen o q block
StopsAt o q (block ∷ next ∷ more) = ⊥

-- the log spends the budget by honest blocks of the first individuals, of which those before the individual at which
-- the run stopped show all
pub record IsCutShort (o : Listed) (c : Concept) (budget : ℕ) (log : List Entry) : Type 0 where
  pub blocks : List (List Entry)
  pub is_log : IsReasonLog o c budget blocks log
  pub spent : spent_of log ≡ budget
  pub individual : ℕ
  pub listed : individual < length o.individuals
  pub begun : individual ≤ length blocks
  pub shown : AreShown o c (take individual blocks)
  pub stops : StopsAt o (instance_query c individual) (drop individual blocks)

-- the text says so, and nothing else
pub record IsUnexplained (budget : ℕ) (out : List ℕ) (log : List Entry) (o : Listed) (c : Concept) : Type 0 where
  pub text : out ≡ line (codes "undecided")
  pub cut_short : IsCutShort o c budget log

-- ---- where memory was refused

-- the log has honest blocks of the first individuals, of which each but the last one shows all
pub record HasBlocks (o : Listed) (c : Concept) (budget : ℕ) (log : List Entry) : Type 0 where
  pub blocks : List (List Entry)
  pub is_log : IsReasonLog o c budget blocks log
  pub shown : AreShown o c (take (length blocks - 1) blocks)

-- ---- the answer

-- the bytes are a document alone, the text is a class expression on it, and this is so of both: the class expression is
-- read as for the question whether it has an element
pub record OnClass (class bytes : List ℕ) (is_so : Listed → Concept → Type 0) : Type 0 where
  pub ontology : Listed
  pub query : Asked
  pub is_question : IsQuestion (has_element class) bytes ontology query
  pub so : is_so ontology query.sub

-- The answer to a question about the individuals of a class expression, by how the run ends: this is so of a run that
-- is done, and this of one that is undecided; else the document or the class expression is refused, or memory was, and
-- then nothing was asked, or this is so of what was.
abbrev pub AnswersOnClass : (done undecided begun : Listed → Concept → Type 0) → List ℕ → List ℕ → List ℕ → Status
    → List Entry → Type 0
AnswersOnClass done undecided begun class bytes out Done log = OnClass class bytes done
AnswersOnClass done undecided begun class bytes out Undecided log = OnClass class bytes undecided
AnswersOnClass done undecided begun class bytes out NoMemory log =
    IsOutOfMemory out (HasBegun (has_element class) bytes log (λ o q. begun o q.sub))
AnswersOnClass done undecided begun class bytes out BadText log = IsRefused (has_element class) bytes out BadText log
AnswersOnClass done undecided begun class bytes out Outside log = IsRefused (has_element class) bytes out Outside log
AnswersOnClass done undecided begun class bytes out Limit log = IsRefused (has_element class) bytes out Limit log
AnswersOnClass done undecided begun class bytes out Rejected log = ⊥
AnswersOnClass done undecided begun class bytes out BadWords log = ⊥
AnswersOnClass done undecided begun class bytes out ReadFault log = ⊥
AnswersOnClass done undecided begun class bytes out WriteFault log = ⊥

-- where memory was refused, the log has blocks of the class expression
abbrev pub AnswersWhy : List ℕ → ℕ → List ℕ → List ℕ → Status → List Entry → Type 0
AnswersWhy class budget bytes out s log =
    AnswersOnClass (IsExplained budget out log) (IsUnexplained budget out log) (λ o c. HasBlocks o c budget log)
    class bytes out s log
