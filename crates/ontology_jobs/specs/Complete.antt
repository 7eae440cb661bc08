-- When a run is done: where its input is read and something of its budget is left.
use Rattle.std.specs.Prelude.{◌≡◌, ℕ, ◌<◌, ◌≤◌, ◌^◌, ◌⊎◌, false, List, length, Option, Some, None}
use Rattle.std.specs.List.{list_any}
use Rattle.shq_terms.specs.Listed.{Listed}
use Rattle.shq_terms.specs.declared.axioms.Query.{Query as Asked}
use Rattle.ofn_expressions.specs.Counts.{Counts}
use Rattle.ofn_reader.specs.DocumentContext.{DocumentContext}
use Rattle.ofn_reader.specs.Documents.{IsDocument}
use Rattle.edit_session.specs.Entry.{Entry}
use Rattle.edit_session.specs.Entries.{spent_of, is_spent}
use Rattle.job_inputs.specs.Asked.{IsAsked}
use Rattle.job_inputs.specs.Questions.{has_element, follows, IsDocumentAlone, IsQuestion}
use Rattle.job_inputs.specs.declared.status.Status.{Status}
use Rattle.job_inputs.specs.declared.status.Status.TheVariants.{Done, Rejected, BadWords, BadText, Outside, Limit}
use Rattle.job_inputs.specs.declared.status.Status.TheVariants.{ReadFault}
use Rattle.job_inputs.specs.declared.status.Status.TheVariants.{WriteFault, Undecided, NoMemory}
use Rattle.ontology_jobs.specs.Words.{Job, check, audit, decide, classify, realize, instances, reasons, session}
use Rattle.ontology_jobs.specs.Words.{pinpoint, evidence, Request, on_input, generated}
use Rattle.ontology_jobs.specs.Answers.{AnswersJob, AnswersRequest}
use Rattle.ontology_jobs.specs.Laws.{IsFaultless}

-- ---- what is read

-- the bytes begin with a document, and the text is a query on it
pub record BeginsWithDocument (query bytes : List ℕ) : Type 0 where
  pub document : Listed
  pub kept : DocumentContext
  pub end : ℕ
  pub counts : Counts
  pub asked : Asked
  pub is_document : IsDocument bytes document kept end
  pub is_query : IsAsked document kept query counts asked

-- the document is read and the question on it, behind which only a gap stands but where a certificate, an audit or a
-- script follows
abbrev pub IsRead : Job → List ℕ → Type 0
IsRead (check query) bytes = BeginsWithDocument query bytes
IsRead (audit query) bytes = BeginsWithDocument query bytes
IsRead (decide question budget) bytes = (o : Listed) × (q : Asked) × IsQuestion question bytes o q
IsRead (classify budget) bytes = (o : Listed) × (kept : DocumentContext) × IsDocumentAlone bytes o kept
IsRead (realize budget) bytes = (o : Listed) × (kept : DocumentContext) × IsDocumentAlone bytes o kept
IsRead (instances class budget) bytes = (o : Listed) × (q : Asked) × IsQuestion (has_element class) bytes o q
IsRead (reasons class budget) bytes = (o : Listed) × (q : Asked) × IsQuestion (has_element class) bytes o q
IsRead (session budget) bytes = (o : Listed) × (kept : DocumentContext) × (end : ℕ) × IsDocument bytes o kept end
IsRead (pinpoint wanted statement budget) bytes = (o : Listed) × (q : Asked) × IsQuestion (follows statement) bytes o q
IsRead (evidence statement budget) bytes = (o : Listed) × (q : Asked) × IsQuestion (follows statement) bytes o q

-- the input of a job is within its length, and is read
pub record IsReadable (job : Job) (bytes : List ℕ) : Type 0 where
  pub short : length bytes ≤ 2 ^ 24
  pub read : IsRead job bytes

-- ---- what is left

-- something of the budget is left; where all of it goes to tests, it is enough that none of them ended with the budget
-- spent
abbrev pub HasLeft : Request → List Entry → Type 0
HasLeft (on_input (check query)) log = Unit {0}
HasLeft (on_input (audit query)) log = Unit {0}
HasLeft (on_input (decide question budget)) log = (spent_of log < budget) ⊎ (list_any is_spent log ≡ false)
HasLeft (on_input (classify budget)) log = (spent_of log < budget) ⊎ (list_any is_spent log ≡ false)
HasLeft (on_input (realize budget)) log = (spent_of log < budget) ⊎ (list_any is_spent log ≡ false)
HasLeft (on_input (instances class budget)) log = (spent_of log < budget) ⊎ (list_any is_spent log ≡ false)
HasLeft (on_input (reasons class budget)) log = spent_of log < budget
HasLeft (on_input (session budget)) log = (spent_of log < budget) ⊎ (list_any is_spent log ≡ false)
HasLeft (on_input (pinpoint wanted statement budget)) log = spent_of log < budget
HasLeft (on_input (evidence statement budget)) log = spent_of log < budget
HasLeft (generated number budget) log = spent_of log < budget

-- ---- how the run ends

-- the job is done
abbrev pub IsDone : Status → Type 0
IsDone Done = Unit {0}
IsDone Rejected = ⊥
IsDone BadWords = ⊥
IsDone BadText = ⊥
IsDone Outside = ⊥
IsDone Limit = ⊥
IsDone ReadFault = ⊥
IsDone WriteFault = ⊥
IsDone Undecided = ⊥
IsDone NoMemory = ⊥

-- the certificate or the audit was judged
abbrev pub IsJudged : Status → Type 0
IsJudged Done = Unit {0}
IsJudged Rejected = Unit {0}
IsJudged BadWords = ⊥
IsJudged BadText = ⊥
IsJudged Outside = ⊥
IsJudged Limit = ⊥
IsJudged ReadFault = ⊥
IsJudged WriteFault = ⊥
IsJudged Undecided = ⊥
IsJudged NoMemory = ⊥

abbrev pub EndsWell : Request → Status → Type 0
EndsWell (on_input (check query)) s = IsJudged s
EndsWell (on_input (audit query)) s = IsJudged s
EndsWell (on_input (decide question budget)) s = IsDone s
EndsWell (on_input (classify budget)) s = IsDone s
EndsWell (on_input (realize budget)) s = IsDone s
EndsWell (on_input (instances class budget)) s = IsDone s
EndsWell (on_input (reasons class budget)) s = IsDone s
EndsWell (on_input (session budget)) s = IsDone s
EndsWell (on_input (pinpoint wanted statement budget)) s = IsDone s
EndsWell (on_input (evidence statement budget)) s = IsDone s
EndsWell (generated number budget) s = IsDone s

-- ---- the two together

-- an answer to an input that is read is that the job is done, where something of the budget is left
abbrev pub JobsAreDone : Type 0
JobsAreDone = (job : Job) (bytes out : List ℕ) (s : Status) (log : List Entry) → IsReadable job bytes
    → HasLeft (on_input job) log → IsFaultless s → AnswersJob job bytes out s log → EndsWell (on_input job) s

-- the same of a workload, which reads nothing
abbrev pub WorkloadsAreDone : Type 0
WorkloadsAreDone = (number budget : ℕ) (bytes out : List ℕ) (s : Status) (log : List Entry)
    → HasLeft (generated number budget) log → IsFaultless s → AnswersRequest (generated number budget) bytes out s log
    → EndsWell (generated number budget) s

-- Of a run: what it answers where nothing failed and memory was not refused. Of an input it says so where the source
-- tells it.
abbrev pub IsComplete : Option Request → Option (List ℕ) → Status → List Entry → Type 0
IsComplete None held s log = Unit {0}
IsComplete (Some (generated number budget)) held s log = HasLeft (generated number budget) log → IsFaultless s
    → IsDone s
IsComplete (Some (on_input job)) None s log = Unit {0}
IsComplete (Some (on_input job)) (Some bytes) s log = IsReadable job bytes → HasLeft (on_input job) log → IsFaultless s
    → EndsWell (on_input job) s
