-- What a session needs to go on, and what a line does.
use Rattle.std.specs.Prelude.{◌≡◌, ℕ, ◌≤◌, false, List, [], ◌++◌, length, All, Option, Some, None}
use Rattle.std.specs.List.{list_any}
use Rattle.shq_terms.specs.Listed.{Listed}
use Rattle.shq_terms.specs.declared.axioms.Numbered.{Numbered}
use Rattle.shq_oracle.specs.Entry.{Entry}
use Rattle.shq_oracle.specs.Entries.{spent_of, is_spent}
use Rattle.edit_session.specs.Sessions.{State, SessionLists}
use Rattle.edit_session.specs.ScriptLines.{request, asks}
use Rattle.edit_session.specs.Said.{Said}
use Rattle.edit_session.specs.Held.{IsOfHeld, Holds}
use Rattle.edit_session.specs.Logged.{LogsAtMostOne, RunsOut, ShowsAnswer}
use Rattle.edit_session.specs.Places.{MayBeNotedOf}
use Rattle.edit_session.specs.declared.said.Said.{Said as Outcome}
use Rattle.edit_session.specs.declared.said.Said.TheVariants.{Answered, Spent}

-- No more was spent than the budget, and no test ran out. The tests were of sets of axioms that were held, and what
-- they found is so. The log begins with the entries that the session noted, or has fewer: then it is another one, as an
-- empty one is.
pub record MayGoOn (s : SessionLists) (budget : ℕ) (log : List Entry) : Type 0 where
  pub within : spent_of log ≤ budget
  pub goes_on : list_any is_spent log ≡ false
  pub of_held : All (IsOfHeld (length s.state.ontology.axioms)) log
  pub hold : All (Holds s.state.ontology.axioms) log
  pub noted : MayBeNotedOf s.noted s.state.live log

-- the same axioms, and perhaps some more
abbrev pub HoldsMore : Listed → Listed → Type 0
HoldsMore o p = (more : List Numbered) × (p.axioms ≡ o.axioms ++ more)

-- a line was answered so, and the session may go on
pub record IsAnsweredLine (budget : ℕ) (old : SessionLists) (l : List ℕ) (before : List Entry) (new : SessionLists)
    (after : List Entry) (answer : List ℕ) : Type 0 where
  pub is_said : Said old.state l new.state answer
  pub logged : LogsAtMostOne old.state l before after
  pub shown : ShowsAnswer old.state l answer after
  pub may_go_on : MayGoOn new budget after

-- the line was answered, or its query could not be decided and there is no answer
abbrev pub IsLineTold : ℕ → SessionLists → List ℕ → List Entry → SessionLists → List Entry → Option (List ℕ) → Type 0
IsLineTold budget old l before new after (Some answer) = IsAnsweredLine budget old l before new after answer
IsLineTold budget old l before new after None = RunsOut budget old.state l before after × (new.state ≡ old.state)

-- the same of each line that asks the text
abbrev pub IsAskTold : ℕ → SessionLists → List ℕ → List Entry → SessionLists → List Entry → Option (List ℕ) → Type 0
IsAskTold budget old text before new after found = (l : List ℕ) → request l ≡ asks text
    → IsLineTold budget old l before new after found

-- where the line asks for a text, it logs at most one test
abbrev pub AskLogsAtMostOne : State → List ℕ → List Entry → List Entry → Type 0
AskLogsAtMostOne s text before after = (l : List ℕ) → request l ≡ asks text → LogsAtMostOne s l before after

-- the same, where the answer was put after a text
abbrev pub IsLineDone : ℕ → SessionLists → List ℕ → List Entry → List ℕ → SessionLists → List Entry → List ℕ → Outcome
    → Type 0
IsLineDone budget old l before text new after longer Answered = (answer : List ℕ)
    × IsAnsweredLine budget old l before new after answer × (longer ≡ text ++ answer)
IsLineDone budget old l before text new after longer Spent = RunsOut budget old.state l before after
    × (new.state ≡ old.state) × (longer ≡ text)
