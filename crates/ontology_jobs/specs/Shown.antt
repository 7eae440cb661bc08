-- What the log of a run that is done shows of its answer.
use Rattle.std.specs.Prelude.{◌≡◌, ℕ, List, [], length}
use Rattle.shq_terms.specs.Concept.{Concept}
use Rattle.shq_terms.specs.Listed.{Listed}
use Rattle.shq_terms.specs.declared.axioms.Query.{Query as Asked}
use Rattle.edit_session.specs.Answers.{OnScript}
use Rattle.edit_session.specs.Entry.{Entry}
use Rattle.edit_session.specs.HonestLog.{IsOneTest}
use Rattle.edit_session.specs.ScriptLines.{script_lines}
use Rattle.edit_session.specs.Scripts.{HasTold}
use Rattle.edit_session.specs.Sessions.{State}
use Rattle.audit_jobs.specs.Answer.{Answer as Decision}
use Rattle.audit_jobs.specs.Decided.{Matches}
use Rattle.audit_jobs.specs.Decisions.{decision_status, decision_text}
use Rattle.audit_jobs.specs.Witnessed.{ShowsEvidence}
use Rattle.pinpointing_jobs.specs.Wanted.{ShowsAll}
use Rattle.job_inputs.specs.Questions.{Text, follows, IsQuestion}
use Rattle.job_inputs.specs.Refusals.{OnDocument}
use Rattle.classifier.specs.Shown.{ShowsClasses}
use Rattle.job_inputs.specs.declared.status.Status.TheVariants.{Done}
use Rattle.individual_jobs.specs.Answers.{OnClass}
use Rattle.individual_jobs.specs.ReasonLogs.{joined_blocks, AreShown}
use Rattle.realizer.specs.ShownLogs.{ShowsInstances, ShowsTypes}
use Rattle.ontology_jobs.specs.Answers.{AnswersJob}
use Rattle.ontology_jobs.specs.Words.{Job, check, audit, decide, classify, realize, instances, reasons, session}
use Rattle.ontology_jobs.specs.Words.{pinpoint, evidence}

-- the question is this query on the document that the bytes are, and this is so of both
pub record OnQuestion (is_so : Listed → Asked → Type 0) (question : Text) (bytes : List ℕ) : Type 0 where
  pub ontology : Listed
  pub query : Asked
  pub is_question : IsQuestion question bytes ontology query
  pub so : is_so ontology query

-- the printed decision is a yes or a no, and the log is one test of the query by all axioms, which ended so: with a yes
-- by the axioms that the printed refutation names, or with a no
pub record ShowsDecision (question : Text) (out : List ℕ) (log : List Entry) (o : Listed) (q : Asked) : Type 0 where
  pub decision : Decision
  pub text : out ≡ decision_text o question decision
  pub decided : decision_status decision ≡ Done
  pub one : IsOneTest o q log
  pub matches : Matches decision one.ended

-- the log is one block for each listed individual, which shows all its justifications
pub record ShowsReasons (log : List Entry) (o : Listed) (c : Concept) : Type 0 where
  pub blocks : List (List Entry)
  pub is_log : log ≡ joined_blocks blocks
  pub whole : length blocks ≡ length o.individuals
  pub shown : AreShown o c blocks

-- what is printed answers the lines of the script, one after another, and each answer is shown by the log up to then
pub record ShowsLines (out : List ℕ) (log : List Entry) (s : State) (lines : List (List ℕ)) : Type 0 where
  pub next : State
  pub has_told : HasTold s [] (script_lines lines) next log out

-- What the log shows of what is answered: of a verification nothing, since it tests nothing; of a question that its one
-- test ended as is printed; of each two classes, of individuals and classes, of each justification and each repair what
-- tests found; and of a script each printed answer.
abbrev pub ShowsJob : Job → (bytes out : List ℕ) → List Entry → Type 0
ShowsJob (check query) bytes out log = log ≡ []
ShowsJob (audit query) bytes out log = log ≡ []
ShowsJob (decide question budget) bytes out log = OnQuestion (ShowsDecision question out log) question bytes
ShowsJob (classify budget) bytes out log = OnDocument (λ o. ShowsClasses o log) bytes
ShowsJob (realize budget) bytes out log = OnDocument (λ o. ShowsClasses o log × ShowsTypes o log) bytes
ShowsJob (instances class budget) bytes out log = OnClass class bytes (λ o c. ShowsInstances o c log)
ShowsJob (reasons class budget) bytes out log = OnClass class bytes (ShowsReasons log)
ShowsJob (session budget) bytes out log = OnScript (ShowsLines out log) bytes
ShowsJob (pinpoint wanted statement budget) bytes out log =
    OnQuestion (λ o q. ShowsAll o q log) (follows statement) bytes
ShowsJob (evidence statement budget) bytes out log =
    OnQuestion (λ o q. ShowsEvidence o q log) (follows statement) bytes

-- an answer that is done is shown by the log
abbrev pub DoneAnswersAreShown : Type 0
DoneAnswersAreShown = (job : Job) (bytes out : List ℕ) (log : List Entry) → AnswersJob job bytes out Done log
    → ShowsJob job bytes out log
