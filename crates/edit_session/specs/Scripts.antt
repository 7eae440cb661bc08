-- A whole script.
use Rattle.std.specs.Prelude.{◌≡◌, ◌⊎◌, ℕ, Bool, true, false, List, [], ◌∷◌, ◌++◌, codes}
use Rattle.certificate_lines.specs.Lines.{is_blank}
use Rattle.shq_oracle.specs.Entry.{Entry}
use Rattle.job_inputs.specs.Answer.{line}
use Rattle.edit_session.specs.Sessions.{State, SessionLists}
use Rattle.edit_session.specs.ScriptLines.{script_lines}
use Rattle.edit_session.specs.Said.{Said}
use Rattle.edit_session.specs.SessionLog.{IsSessionLog}
use Rattle.edit_session.specs.Logged.{LogsAtMostOne, RunsOut, ShowsAnswer}
use Rattle.edit_session.specs.Lines.{MayGoOn, HoldsMore, IsLineDone}
use Rattle.edit_session.specs.declared.said.Said.{Said as Outcome}
use Rattle.edit_session.specs.declared.said.Said.TheVariants.{Answered, Spent}

-- From a state and a log on, these lines are answered one after another: they leave a state and a log, which shows the
-- answers, and these are a text.
pub data HasTold (start : State) (before : List Entry) : List (List ℕ) → State → List Entry → List ℕ → Type 0 where
  nothing : HasTold start before [] start before []
  one_more : (ls : List (List ℕ)) (s : State) (log : List Entry) (text : List ℕ) (l : List ℕ) (next : State)
      (after : List Entry) (answer : List ℕ)
      → HasTold start before ls s log text → Said s l next answer → LogsAtMostOne s l log after
      → ShowsAnswer s l answer after
      → HasTold start before (ls ++ l ∷ []) next after (text ++ answer)

-- all lines of the script are answered, and the log is honest
pub record IsWhollyTold (budget : ℕ) (start : State) (before : List Entry) (lines : List (List ℕ)) (next : State)
    (after : List Entry) (text : List ℕ) : Type 0 where
  pub has_told : HasTold start before (script_lines lines) next after text
  pub honest : IsSessionLog next.ontology budget after

-- the last answer of a session whose budget is spent
abbrev pub undecided_line : List ℕ
undecided_line = line (codes "undecided")

-- The lines before one that could not be decided are answered, and the last line says so. The log is honest, and its
-- last entry is the test that ran out, by which the whole budget is spent.
pub record IsCutOff (budget : ℕ) (start : State) (before : List Entry) (lines : List (List ℕ)) (after : List Entry)
    (text : List ℕ) : Type 0 where
  pub front : List (List ℕ)
  pub undecided : List ℕ
  pub behind : List (List ℕ)
  pub is_script : script_lines lines ≡ front ++ (undecided ∷ behind)
  pub standing : State
  pub log : List Entry
  pub told : List ℕ
  pub has_told : HasTold start before front standing log told
  pub runs_out : RunsOut budget standing undecided log after
  pub says : text ≡ told ++ undecided_line
  pub honest : IsSessionLog standing.ontology budget after

-- what was said to the lines of a text
abbrev pub IsScriptDone : ℕ → State → List Entry → List (List ℕ) → State → List Entry → List ℕ → Outcome → Type 0
IsScriptDone budget start before lines next after text Answered = IsWhollyTold budget start before lines next after text
IsScriptDone budget start before lines next after text Spent = IsCutOff budget start before lines after text

-- the same, where it was put after another text
abbrev pub IsScriptWritten : ℕ → State → List Entry → List ℕ → List (List ℕ) → State → List Entry → List ℕ → Outcome
    → Type 0
IsScriptWritten budget start before text lines next after longer said = (told : List ℕ)
    × IsScriptDone budget start before lines next after told said × (longer ≡ text ++ told)

-- the log is as it was; or the first of the lines logged a test, which may have run out
abbrev pub LogsNext : ℕ → State → List (List ℕ) → List Entry → List Entry → Type 0
LogsNext budget s [] before after = after ≡ before
LogsNext budget s (l ∷ ls) before after = LogsAtMostOne s l before after ⊎ RunsOut budget s l before after

-- Where memory was refused: the first lines were answered, and nothing else was put. What they logged is the log, with
-- a test of the next line perhaps.
pub record IsToldAtFirst (budget : ℕ) (start : State) (before : List Entry) (text : List ℕ) (lines : List (List ℕ))
    (after : List Entry) (longer : List ℕ) : Type 0 where
  pub front : List (List ℕ)
  pub behind : List (List ℕ)
  pub is_script : script_lines lines ≡ front ++ behind
  pub standing : State
  pub log : List Entry
  pub told : List ℕ
  pub has_told : HasTold start before front standing log told
  pub put : longer ≡ text ++ told
  pub logged : LogsNext budget standing behind log after

-- ---- while it is done

-- where memory was refused: there is something on the line, and it logged one test at most
abbrev pub IsLoggedLine : State → List ℕ → List Entry → List Entry → Type 0
IsLoggedLine s l before after = (is_blank l ≡ false) × LogsAtMostOne s l before after

-- a line of whitespace alone leaves everything as it is; any other is done
abbrev pub IsSaidIf : Bool → ℕ → SessionLists → List ℕ → List Entry → List ℕ → SessionLists → List Entry → List ℕ
    → Outcome → Type 0
IsSaidIf true budget old l before text new after longer said = (new ≡ old) × (after ≡ before) × (longer ≡ text)
    × (said ≡ Answered)
IsSaidIf false budget old l before text new after longer said =
    IsLineDone budget old l before text new after longer said

-- what is said to a line of a script, blank or not
abbrev pub IsSaidTo : ℕ → SessionLists → List ℕ → List Entry → List ℕ → SessionLists → List Entry → List ℕ → Outcome
    → Type 0
IsSaidTo budget old l before text new after longer said =
    IsSaidIf (is_blank l) budget old l before text new after longer said

-- these lines are answered, and the session may go on
pub record IsToldSoFar (budget : ℕ) (start : State) (before : List Entry) (text : List ℕ) (lines : List (List ℕ))
    (s : SessionLists) (log : List Entry) (longer : List ℕ) : Type 0 where
  pub told : List ℕ
  pub has_told : HasTold start before (script_lines lines) s.state log told
  pub put : longer ≡ text ++ told
  pub more : HoldsMore start.ontology s.state.ontology
  pub may_go_on : MayGoOn s budget log
  pub honest : IsSessionLog s.state.ontology budget log
