-- Going back from a clash.
use Rattle.std.specs.Prelude.{◌≡◌, ℕ, Bool, List, [], ◌∷◌, ◌++◌, take}
use Rattle.lane_sieve.specs.Sets.{NumberSet}
use Rattle.calculus_specs.specs.Line.{Line}
use Rattle.search_trace.specs.Trace.{TraceLists, with_line, turned_back, answer_of, is_turn}

-- the trace with the line of a clash, that rests on these marks, once it has gone back
abbrev pub closed_trace : TraceLists → Line → NumberSet → TraceLists
closed_trace t line u = turned_back (with_line t line u) u

-- whether going back with it comes to a next alternative
abbrev pub can_turn : TraceLists → Line → NumberSet → Bool
can_turn t line u = is_turn (answer_of (with_line t line u) u)

-- this is the latest of so many, which are kept with the latest last
pub record IsLatest (marks : List ℕ) (count at : ℕ) : Type 0 where
  pub before : List ℕ
  pub are : take count marks ≡ before ++ at ∷ []
