-- The words and the input decide the answer, unless something fails, memory is refused or a search is asked for; and
-- what is accepted is true.
use Rattle.std.specs.Prelude.{◌≡◌, ℕ, false, [], List, map, codes, Option, Some, None, Ok}
use Rattle.std.specs.List.{list_any}
use Rattle.shq_terms.specs.declared.axioms.Axiom.{Axiom}
use Rattle.shq_terms.specs.Listed.{Listed}
use Rattle.shq_terms.specs.declared.axioms.Query.{Query as Asked}
use Rattle.shq_meaning.specs.Truth.{Entails}
use Rattle.ofn_expressions.specs.Counts.{Counts}
use Rattle.ofn_reader.specs.DocumentContext.{DocumentContext}
use Rattle.ofn_reader.specs.Documents.{IsDocument}
use Rattle.edit_session.specs.Entry.{Entry}
use Rattle.edit_session.specs.Entries.{spent_of, is_spent}
use Rattle.ontology_jobs.specs.Words.{check, audit, decide, classify, realize, instances, reasons, session}
use Rattle.ontology_jobs.specs.Words.{pinpoint, evidence, Request, on_input, generated, request_of}
use Rattle.audit_jobs.specs.AuditLists.{AuditLists}
use Rattle.audit_jobs.specs.Sound.{ListsAll}
use Rattle.audit_jobs.specs.Audited.{audit_after, IsAskedOn}
use Rattle.job_inputs.specs.Asked.{IsAsked}
use Rattle.job_inputs.specs.Answer.{line}
use Rattle.ontology_jobs.specs.Answers.{AnswersJob, AnswersRequest, Answers}
use Rattle.job_inputs.specs.declared.status.Status.{Status}
use Rattle.job_inputs.specs.declared.status.Status.TheVariants.{Done, Rejected, BadWords, BadText, Outside, Limit}
use Rattle.job_inputs.specs.declared.status.Status.TheVariants.{ReadFault}
use Rattle.job_inputs.specs.declared.status.Status.TheVariants.{WriteFault, Undecided, NoMemory}

-- a status that does not depend on the source, the sink or the memory
abbrev pub IsFinal : Status → Type 0
IsFinal Done = Unit {0}
IsFinal Rejected = Unit {0}
IsFinal BadWords = Unit {0}
IsFinal BadText = Unit {0}
IsFinal Outside = Unit {0}
IsFinal Limit = Unit {0}
IsFinal ReadFault = ⊥
IsFinal WriteFault = ⊥
IsFinal Undecided = ⊥
IsFinal NoMemory = ⊥

-- words that ask for no search, which may find one of several certificates
abbrev pub AsksForNoSearch : Option Request → Type 0
AsksForNoSearch None = Unit {0}
AsksForNoSearch (Some (on_input (check query))) = Unit {0}
AsksForNoSearch (Some (on_input (audit query))) = Unit {0}
AsksForNoSearch (Some (on_input (decide question budget))) = ⊥
AsksForNoSearch (Some (on_input (classify budget))) = ⊥
AsksForNoSearch (Some (on_input (realize budget))) = ⊥
AsksForNoSearch (Some (on_input (instances class budget))) = ⊥
AsksForNoSearch (Some (on_input (reasons class budget))) = ⊥
AsksForNoSearch (Some (on_input (session budget))) = ⊥
AsksForNoSearch (Some (on_input (pinpoint wanted statement budget))) = ⊥
AsksForNoSearch (Some (on_input (evidence statement budget))) = ⊥
AsksForNoSearch (Some (generated number budget)) = ⊥

-- where no search is asked for, two final answers to the same words and bytes are the same
abbrev pub AnswersAreUnique : Type 0
AnswersAreUnique =
    (words : List (List ℕ)) (bytes out text : List ℕ) (s t : Status) (log more : List Entry)
    → AsksForNoSearch (request_of words) → IsFinal s → IsFinal t → Answers words bytes out s log
    → Answers words bytes text t more
    → (s ≡ t) × (out ≡ text)

-- the whole budget of what the words asked for was spent; a verification has none
abbrev pub SpendsAll : Request → List Entry → Type 0
SpendsAll (on_input (check query)) log = ⊥
SpendsAll (on_input (audit query)) log = ⊥
SpendsAll (on_input (decide question budget)) log = spent_of log ≡ budget
SpendsAll (on_input (classify budget)) log = spent_of log ≡ budget
SpendsAll (on_input (realize budget)) log = spent_of log ≡ budget
SpendsAll (on_input (instances class budget)) log = spent_of log ≡ budget
SpendsAll (on_input (reasons class budget)) log = spent_of log ≡ budget
SpendsAll (on_input (session budget)) log = spent_of log ≡ budget
SpendsAll (on_input (pinpoint wanted statement budget)) log = spent_of log ≡ budget
SpendsAll (on_input (evidence statement budget)) log = spent_of log ≡ budget
SpendsAll (generated number budget) log = spent_of log ≡ budget

-- the same of what words ask for; those of no job spend nothing
abbrev pub HasSpentAll : Option Request → List Entry → Type 0
HasSpentAll None log = ⊥
HasSpentAll (Some r) log = SpendsAll r log

-- an answer is undecided only where the whole budget was spent
abbrev pub UndecidedSpendsAll : Type 0
UndecidedSpendsAll = (r : Request) (bytes out : List ℕ) (log : List Entry) → AnswersRequest r bytes out Undecided log
    → SpendsAll r log

-- ---- out of memory

-- No test in the log ended with the budget spent. Nothing is said of a session, nor of lists of justifications, of
-- repairs and of the reasons for instances: after the budget is spent, a session still takes memory for its line
-- `undecided`, and a list takes it for what was found by then.
abbrev pub SpendsNoTest : Request → List Entry → Type 0
SpendsNoTest (on_input (check query)) log = list_any is_spent log ≡ false
SpendsNoTest (on_input (audit query)) log = list_any is_spent log ≡ false
SpendsNoTest (on_input (decide question budget)) log = list_any is_spent log ≡ false
SpendsNoTest (on_input (classify budget)) log = list_any is_spent log ≡ false
SpendsNoTest (on_input (realize budget)) log = list_any is_spent log ≡ false
SpendsNoTest (on_input (instances class budget)) log = list_any is_spent log ≡ false
SpendsNoTest (on_input (reasons class budget)) log = Unit {0}
SpendsNoTest (on_input (session budget)) log = Unit {0}
SpendsNoTest (on_input (pinpoint wanted statement budget)) log = Unit {0}
SpendsNoTest (on_input (evidence statement budget)) log = list_any is_spent log ≡ false
SpendsNoTest (generated number budget) log = list_any is_spent log ≡ false

-- the same of what words ask for
abbrev pub HasSpentNoTest : Option Request → List Entry → Type 0
HasSpentNoTest None log = ⊥
HasSpentNoTest (Some r) log = SpendsNoTest r log

-- that the budget was spent is not told as out of memory
abbrev pub NoMemorySpendsNoTest : Type 0
NoMemorySpendsNoTest = (r : Request) (bytes out : List ℕ) (log : List Entry) → AnswersRequest r bytes out NoMemory log
    → SpendsNoTest r log

-- ---- words of no job

-- the words ask for nothing, and nothing was asked
pub record AsksForNothing (words : List (List ℕ)) (log : List Entry) : Type 0 where
  pub no_request : request_of words ≡ None
  pub unlogged : log ≡ []

-- words that are answered as bad words ask for nothing
abbrev pub BadWordsAskForNothing : Type 0
BadWordsAskForNothing = (words : List (List ℕ)) (bytes out : List ℕ) (log : List Entry)
    → Answers words bytes out BadWords log → AsksForNothing words log

-- ---- refusals

-- a status with which a document or a question is refused
abbrev pub IsRefusal : Status → Type 0
IsRefusal Done = ⊥
IsRefusal Rejected = ⊥
IsRefusal BadWords = ⊥
IsRefusal BadText = Unit {0}
IsRefusal Outside = Unit {0}
IsRefusal Limit = Unit {0}
IsRefusal ReadFault = ⊥
IsRefusal WriteFault = ⊥
IsRefusal Undecided = ⊥
IsRefusal NoMemory = ⊥

-- a status of a run in which nothing failed and memory was not refused
abbrev pub IsFaultless : Status → Type 0
IsFaultless Done = Unit {0}
IsFaultless Rejected = Unit {0}
IsFaultless BadWords = Unit {0}
IsFaultless BadText = Unit {0}
IsFaultless Outside = Unit {0}
IsFaultless Limit = Unit {0}
IsFaultless ReadFault = ⊥
IsFaultless WriteFault = ⊥
IsFaultless Undecided = Unit {0}
IsFaultless NoMemory = ⊥

-- where one answer to words and an input is a refusal, each other one is the same
abbrev pub RefusalsAreAnsweredAlike : Type 0
RefusalsAreAnsweredAlike =
    (words : List (List ℕ)) (bytes out text : List ℕ) (s t : Status) (log more : List Entry) → IsRefusal s
    → IsFaultless t → Answers words bytes out s log → Answers words bytes text t more
    → (s ≡ t) × (out ≡ text)

-- ---- what is accepted

-- the document and the query on it that texts are, and what holds of the axioms and the query
pub record HaveRead (holds : List Axiom → Asked → Type 0) (query bytes : List ℕ) : Type 0 where
  pub document : Listed
  pub kept : DocumentContext
  pub end : ℕ
  pub counts : Counts
  pub asked : Asked
  pub is_document : IsDocument bytes document kept end
  pub is_query : IsAsked document kept query counts asked
  pub what_holds : holds (map (λ n. n.axiom) document.axioms) asked

-- a query that is answered by `accepted entailed` follows from the axioms of the document
abbrev pub AcceptedQueriesFollow : Type 0
AcceptedQueriesFollow = (query bytes : List ℕ) (log : List Entry)
    → AnswersJob (check query) bytes (line (codes "accepted entailed")) Done log → HaveRead Entails query bytes

-- and one that is answered by `accepted not entailed` does not
abbrev pub AcceptedQueriesDoNotFollow : Type 0
AcceptedQueriesDoNotFollow = (query bytes : List ℕ) (log : List Entry)
    → AnswersJob (check query) bytes (line (codes "accepted not entailed")) Done log
    → HaveRead (λ axioms q. Entails axioms q → ⊥) query bytes

-- The document, the query on it and the audit behind it that texts are, over the names of document and query; and the
-- lists of the audit are exactly all justifications of the query and all its repairs.
pub record HaveAudited (query bytes : List ℕ) : Type 0 where
  pub both : Listed
  pub asked : Asked
  pub rest : List ℕ
  pub lists : AuditLists
  pub is_asked : IsAskedOn query bytes both asked rest
  pub is_audit : audit_after both rest ≡ Ok lists
  pub are_all : ListsAll both asked lists

-- what is answered by `accepted audit` lists exactly all
abbrev pub AcceptedAuditsListAll : Type 0
AcceptedAuditsListAll = (query bytes : List ℕ) (log : List Entry)
    → AnswersJob (audit query) bytes (line (codes "accepted audit")) Done log → HaveAudited query bytes
