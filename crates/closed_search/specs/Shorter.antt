-- Refutations without the lines on which nothing rests.
use Rattle.std.specs.Prelude.{◌≡◌, Bool, true, false, List, [], ◌∷◌}
use Rattle.std.specs.List.{list_all}
use Rattle.lane_sieve.specs.Sets.{IsPart}
use Rattle.axiom_sets.specs.Sets.{Limited, member_list}
use Rattle.shq_terms.specs.Listed.{Listed}
use Rattle.shq_terms.specs.declared.axioms.Query.{Query}
use Rattle.calculus_specs.specs.Shape.{Shape}
use Rattle.calculus_specs.specs.Line.{Line}
use Rattle.calculus_specs.specs.Valid.{IsRefutation}
use Rattle.refutation_truth.specs.Theory.{question_in}
use Rattle.search_trace.specs.RefutationLists.{RefutationLists}
use Rattle.search_trace.specs.ReadBack.{IsWritable}
use Rattle.closed_search.specs.Named.{NamesNoOther}
use Rattle.closed_search.specs.Finished.{IsNumbered}

-- the lines that stay, in their order, by a list that says of each whether it does; those behind its end are left out
abbrev pub staying : List Bool → List Line → List Line
staying [] lines = []
staying (stays ∷ others) [] = []
staying (true ∷ others) (line ∷ lines) = line ∷ staying others lines
staying (false ∷ others) (line ∷ lines) = staying others lines

-- a line where it stays, and else nothing
abbrev pub line_if : Bool → Line → List Line
line_if true line = line ∷ []
line_if false line = []

-- The refutation has some of these lines and no others, in their order, with numbers of its own that stand for the same
-- concepts.
pub record HasSomeOf (table : List Shape) (lines : List Line) (r : RefutationLists) : Type 0 where
  pub stay : List Bool
  pub numbered : IsNumbered table r.axioms (staying stay lines) r

-- what holds of each of all lines, holds of each of some
abbrev pub AreAmong : List Line → List Line → Type 0
AreAmong all some = (test : Line → Bool) → list_all test all ≡ true → list_all test some ≡ true

-- it can be written; of the set it names role axioms alone, and axioms that stand in its lines
pub record IsOver (o : Listed) (set : Limited) (r : RefutationLists) : Type 0 where
  pub axioms : NamesNoOther o.axioms set r.lines r.axioms
  pub part : IsPart r.axioms.members set.members
  pub writable : IsWritable o r

-- the same, and it is valid
pub record IsShorter (o : Listed) (set : Limited) (query : Query) (r : RefutationLists) : Type 0 where
  pub over : IsOver o set r
  pub refutes : IsRefutation (question_in o (member_list r.axioms) query) r.shapes r.lines
