-- The open branchings of a trace, and what it is to close the open child of the latest.
use Rattle.std.specs.Prelude.{◌≡◌, ℕ, ◌==◌, Bool, true, List, [], ◌∷◌, map, Option, Some}
use Rattle.std.specs.List.{list_any, list_all}
use Rattle.std.specs.FinSet as sets
use Rattle.refutation_tree.specs.NumberSets.{NumberSet}
use Rattle.calculus_specs.specs.Shape.{Shape}
use Rattle.calculus_specs.specs.Rules.{Question}
use Rattle.tableau_specs.specs.Lines.{concept_in}
use Rattle.search_trace.specs.Premises.{Added, is_branching, is_single}
use Rattle.search_trace.specs.Leaves.{leaves}
use Rattle.search_trace.specs.Frames.{Frame, began, turned, IsOpen}
use Rattle.search_trace.specs.Noted.{Noted, NotedLine, noted_added, marks_given, noted_children, closing_rests_on}
use Rattle.search_trace.specs.Trail.{MarkedFact, Covers, is_next}

-- an open branching, the marks on which the closing of its closed children rests, the facts of the trail before its
-- mark, what the alternative taken adds, and what those that are left add
pub record Branching : Type 0 where
  pub frame : Frame Noted NotedLine
  pub gathered : NumberSet
  pub facts : List MarkedFact
  pub taken : Added
  pub rest : List Added

-- the frames of the open branchings
abbrev pub frames_of : List Branching → List (Frame Noted NotedLine)
frames_of bs = map (λ b. b.frame) bs

-- a branching's mark is the number of its line
abbrev pub mark_of : Branching → ℕ
mark_of b = b.frame.branching.number

-- the marks of the facts of its alternatives
abbrev pub marks_in : Branching → NumberSet
marks_in b = marks_given b.frame.branching

-- the child of an alternative
abbrev pub child_by : Branching → Added → Noted
child_by b a = noted_added (marks_in b) b.frame.at a

-- the number is the mark of one of the open branchings
abbrev pub is_mark : List Branching → ℕ → Bool
is_mark bs m = list_any (λ b. mark_of b == m) bs

-- the marks on which the closing of these lines rests are in the set, as far as their branchings are open
abbrev pub RestsWithin : List Branching → NumberSet → List NotedLine → Type 0
RestsWithin bs u lines = (m : ℕ) → is_mark bs m ≡ true → closing_rests_on m lines ≡ true → sets.contains u m ≡ true

-- the marks on which the closing of a whole branching rests
abbrev pub whole_marks : Branching → NumberSet → NumberSet
whole_marks b u = sets.union (sets.union b.gathered u) b.frame.branching.marks

-- the branching at its next alternative, once the lines close its open child and that rests on marks in u
abbrev pub turned_branching : Branching → List NotedLine → NumberSet → Added → List Added → Branching
turned_branching b lines u a rest = record {
  frame = turned b.frame lines (child_by b a) (map (child_by b) rest);
  gathered = sets.union b.gathered u;
  facts = b.facts;
  taken = a;
  rest = rest;
}

module _ (q : Question) (table : List Shape) where
  abbrev pub step_of : Noted → NotedLine → Option (List Noted)
  step_of = noted_children q (concept_in table)

  pub record IsBranching (from : Noted) (older : List Branching) (b : Branching) : Type 0 where
    pub is_open : IsOpen step_of from b.frame
    pub branches : is_branching b.frame.branching.line ≡ true
    pub singles : list_all (λ l. is_single l.line) b.frame.before ≡ true
    pub gathers : RestsWithin older b.gathered b.frame.closed
    pub covers : Covers q.first table b.facts b.frame.at
    pub kid_is : b.frame.kid ≡ child_by b b.taken
    pub left_is : b.frame.left ≡ map (child_by b) b.rest
    pub taken_is_next : is_next q.first b.facts b.taken ≡ true
    pub rest_is_next : list_all (is_next q.first b.facts) b.rest ≡ true

  abbrev pub AreBranchings : Noted → List Branching → Type 0
  AreBranchings start [] = Unit {0}
  AreBranchings start (b ∷ bs) = IsBranching (began start (frames_of bs)) bs b × AreBranchings start bs

  -- the lines close the open child of the latest branching
  pub record Closes (start : Noted) (bs : List Branching) (lines : List NotedLine) (u : NumberSet) : Type 0 where
    pub run : leaves step_of (began start (frames_of bs) ∷ []) lines ≡ Some []
    pub rests : RestsWithin bs u lines
