-- What is answered to a document with a script behind it.
use Rattle.std.specs.Prelude.{◌≡◌, ◌⊎◌, ℕ, List, [], drop}
use Rattle.certificate_lines.specs.Lines.{lines}
use Rattle.shq_terms.specs.Listed.{Listed}
use Rattle.ofn_expressions.specs.declared.refusal.Refusal.{Refusal}
use Rattle.ofn_reader.specs.DocumentContext.{DocumentContext}
use Rattle.ofn_reader.specs.Documents.{IsDocument, IsNoDocument}
use Rattle.shq_oracle.specs.Entry.{Entry}
use Rattle.job_inputs.specs.Answer.{complaint_answer, IsAnswer}
use Rattle.job_inputs.specs.Complaints.{complaint}
use Rattle.job_inputs.specs.Refusals.{IsOutOfMemory}
use Rattle.job_inputs.specs.declared.complaint.Place.TheVariants.{Document}
use Rattle.job_inputs.specs.declared.status.Status.{Status}
use Rattle.job_inputs.specs.declared.status.Status.TheVariants.{Done, Rejected, BadWords, BadText, Outside, Limit}
use Rattle.job_inputs.specs.declared.status.Status.TheVariants.{ReadFault, WriteFault, Undecided, NoMemory}
use Rattle.edit_session.specs.Sessions.{State, begun}
use Rattle.edit_session.specs.SessionLog.{IsSessionLog}
use Rattle.edit_session.specs.Lines.{HoldsMore}
use Rattle.edit_session.specs.Scripts.{IsWhollyTold, IsCutOff, IsToldAtFirst}

-- ---- on a document

-- the bytes begin with a document, and this is so of the session on it and of the lines of the text behind its last
-- bracket
pub record OnScript (is_so : State → List (List ℕ) → Type 0) (bytes : List ℕ) : Type 0 where
  pub ontology : Listed
  pub kept : DocumentContext
  pub end : ℕ
  pub is_document : IsDocument bytes ontology kept end
  pub so : is_so (begun ontology kept) (lines (drop end bytes))

-- the document is refused, and nothing was asked
pub record IsRefusedScript (bytes out : List ℕ) (s : Status) (log : List Entry) : Type 0 where
  pub refusal : Refusal
  pub refused : IsNoDocument bytes refusal
  pub answer : IsAnswer (complaint_answer Document (complaint refusal)) out s
  pub unlogged : log ≡ []

-- ---- with a log that is empty at first

-- all lines of the script are answered, and the log is honest
abbrev pub AnswersAllLines : ℕ → List ℕ → List Entry → State → List (List ℕ) → Type 0
AnswersAllLines budget out log s ls = (next : State) × IsWhollyTold budget s [] ls next log out

-- The lines before one that could not be decided are answered, and the last line says so. The log is honest, and its
-- last entry is the test that ran out, by which the whole budget is spent.
abbrev pub AnswersFirstLines : ℕ → List ℕ → List Entry → State → List (List ℕ) → Type 0
AnswersFirstLines budget out log s ls = IsCutOff budget s [] ls log out

-- Where memory was refused: the log is that of the first lines, with a test of the next one perhaps. It is honest over
-- axioms that were held, those of the document and those that the lines put last.
pub record LogsSoFar (budget : ℕ) (log : List Entry) (s : State) (ls : List (List ℕ)) : Type 0 where
  pub held : Listed
  pub more : HoldsMore s.ontology held
  pub honest : IsSessionLog held budget log
  pub put : List ℕ
  pub at_first : IsToldAtFirst budget s [] [] ls log put

-- ---- the answer

-- where memory was refused: nothing was asked, or the document is read
abbrev pub BeginsSession : ℕ → List ℕ → List Entry → Type 0
BeginsSession budget bytes log = (log ≡ []) ⊎ OnScript (LogsSoFar budget log) bytes

-- what is answered to a session, for each status
abbrev pub AnswersSession : ℕ → List ℕ → List ℕ → Status → List Entry → Type 0
AnswersSession budget bytes out Done log = OnScript (AnswersAllLines budget out log) bytes
AnswersSession budget bytes out Undecided log = OnScript (AnswersFirstLines budget out log) bytes
AnswersSession budget bytes out NoMemory log = IsOutOfMemory out (BeginsSession budget bytes log)
AnswersSession budget bytes out BadText log = IsRefusedScript bytes out BadText log
AnswersSession budget bytes out Outside log = IsRefusedScript bytes out Outside log
AnswersSession budget bytes out Limit log = IsRefusedScript bytes out Limit log
AnswersSession budget bytes out Rejected log = ⊥
AnswersSession budget bytes out BadWords log = ⊥
AnswersSession budget bytes out ReadFault log = ⊥
AnswersSession budget bytes out WriteFault log = ⊥
