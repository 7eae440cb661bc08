-- What a line logs.
use Rattle.std.specs.Prelude.{◌≡◌, ◌⊎◌, ℕ, Bool, true, false, List, Contains}
use Rattle.lane_sieve.specs.Sets.{IsPart}
use Rattle.axiom_sets.specs.Sets.{Limited}
use Rattle.shq_terms.specs.Listed.{Listed}
use Rattle.shq_terms.specs.declared.axioms.Query.{Query}
use Rattle.job_inputs.specs.Limits.{IsInLimit}
use Rattle.ofn_reader.specs.Queries.{IsQueryOn}
use Rattle.shq_oracle.specs.Entry.{Entry}
use Rattle.shq_oracle.specs.Entry.TheVariants.{Test}
use Rattle.shq_oracle.specs.TestEnd.TheVariants.{Yes, No}
use Rattle.shq_oracle.specs.Entries.{spent_of}
use Rattle.edit_session.specs.Said.{yes_line, no_line}
use Rattle.edit_session.specs.Sessions.{State, live_set}
use Rattle.edit_session.specs.ScriptLines.{request, asks}
use Rattle.edit_session.specs.SessionLog.{Tests}

-- a line asks a query, and the log gained such a test of the live axioms and the query
pub record LogsTest (ran_out : Bool) (s : State) (l : List ℕ) (before after : List Entry) : Type 0 where
  pub text : List ℕ
  pub is_asked : request l ≡ asks text
  pub both : Listed
  pub query : Query
  pub is_query : IsQueryOn s.context s.ontology text both query
  pub in_limit : IsInLimit both query
  pub tests : Tests ran_out both (live_set s) query before after

-- a line that was answered logged one such test at most
abbrev pub LogsAtMostOne : State → List ℕ → List Entry → List Entry → Type 0
LogsAtMostOne s l before after = (after ≡ before) ⊎ LogsTest false s l before after

-- a line that could not be decided logged one that ran out, by which the whole budget is spent
pub record RunsOut (budget : ℕ) (s : State) (l : List ℕ) (before after : List Entry) : Type 0 where
  pub test : LogsTest true s l before after
  pub is_whole : spent_of after ≡ budget

-- a test found that the query follows from axioms of the set, and the answer is yes, with the numbers of just these
pub record ShowsYes (log : List Entry) (s : Limited) (q : Query) (answer : List ℕ) : Type 0 where
  pub tested : Limited
  pub steps : ℕ
  pub found : Limited
  pub is_yes : Contains log (Test tested q steps (Yes found))
  pub part : IsPart found.members s.members
  pub says : answer ≡ yes_line found

-- a test found that the query does not follow from axioms among which are all of the set, and the answer is no
pub record ShowsNo (log : List Entry) (s : Limited) (q : Query) (answer : List ℕ) : Type 0 where
  pub tested : Limited
  pub steps : ℕ
  pub is_no : Contains log (Test tested q steps No)
  pub has_part : IsPart s.members tested.members
  pub says : answer ≡ no_line

-- an entry of the log tells of the set what is answered
abbrev pub ShowsVerdict : List Entry → Limited → Query → List ℕ → Type 0
ShowsVerdict log s q answer = ShowsYes log s q answer ⊎ ShowsNo log s q answer

-- whatever query the line asks, an entry of the log tells of the live axioms what is answered: so the log alone shows
-- each answer
abbrev pub ShowsAnswer : State → List ℕ → List ℕ → List Entry → Type 0
ShowsAnswer s l answer log = (text : List ℕ) (both : Listed) (q : Query) → request l ≡ asks text
    → IsQueryOn s.context s.ontology text both q → ShowsVerdict log (live_set s) q answer
