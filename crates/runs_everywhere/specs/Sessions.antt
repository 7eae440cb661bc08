-- What a session answers, by what follows in a world and in that of each finite interpretation.
use Rattle.std.specs.Prelude.{◌≡◌, ◌⊎◌, ℕ, List, [], ◌∷◌, ◌++◌}
use Rattle.lane_sieve.specs.Sets.{IsPart}
use Rattle.axiom_sets.specs.Sets.{Limited}
use Rattle.shq_terms.specs.Listed.{Listed}
use Rattle.shq_terms.specs.declared.axioms.Query.{Query as Asked}
use Rattle.ofn_reader.specs.Queries.{IsQueryOn}
use Rattle.all_worlds.specs.Worlds.{World}
use Rattle.edit_session.specs.Said.{Said, yes_line, no_line}
use Rattle.edit_session.specs.ScriptLines.{request, asks, script_lines}
use Rattle.edit_session.specs.Sessions.{State}
use Rattle.runs_everywhere.specs.Sets.{FollowsFromIn}

-- the answer is yes, with live axioms from which the query follows
pub record IsYesIn {d : Type 0} (w : World d) (s : State) (q : Asked) (answer : List ℕ) : Type 0 where
  pub found : Limited
  pub are_live : IsPart found.members s.live
  pub follows : FollowsFromIn w s.ontology.axioms q found.members
  pub says : answer ≡ yes_line found

-- it is no, and the query does not follow from the live axioms
pub record IsNoIn {d : Type 0} (w : World d) (s : State) (q : Asked) (answer : List ℕ) : Type 0 where
  pub follows_not : ¬ FollowsFromIn w s.ontology.axioms q s.live
  pub says : answer ≡ no_line

-- whatever query the line asks, the answer is such a one
abbrev pub IsToldIn : {d : Type 0} → World d → State → List ℕ → List ℕ → Type 0
IsToldIn w s l answer = (text : List ℕ) (both : Listed) (q : Asked) → request l ≡ asks text
    → IsQueryOn s.context s.ontology text both q → IsYesIn w s q answer ⊎ IsNoIn w s q answer

-- from a state on, these lines are answered one after another, and queries so; they leave a state, and the answers are
-- a text
pub data HasToldIn {d : Type 0} (w : World d) (start : State) : List (List ℕ) → State → List ℕ → Type 0 where
  nothing : HasToldIn w start [] start []
  one_more : (ls : List (List ℕ)) (s : State) (text : List ℕ) (l : List ℕ) (next : State) (answer : List ℕ)
      → HasToldIn w start ls s text → Said s l next answer → IsToldIn w s l answer
      → HasToldIn w start (ls ++ l ∷ []) next (text ++ answer)

-- the text has the answers to all lines of the script
pub record AreToldIn {d : Type 0} (w : World d) (out : List ℕ) (s : State) (lines : List (List ℕ)) : Type 0 where
  pub next : State
  pub has_told : HasToldIn w s (script_lines lines) next out
