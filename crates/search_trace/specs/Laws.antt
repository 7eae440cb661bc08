-- A trace beside the places of its open branchings: what the steps of a search and going back make of it.
use Rattle.std.specs.Prelude.{◌≡◌, ℕ, Bool, true, List, [], ◌∷◌, ◌++◌, map, length, Some}
use Rattle.std.specs.List.{list_all}
use Rattle.std.specs.FinSet as sets
use Rattle.refutation_tree.specs.NumberSets.{NumberSet}
use Rattle.calculus_specs.specs.Normal.{normal_form, negated_form}
use Rattle.calculus_specs.specs.Shape.{Shape}
use Rattle.calculus_specs.specs.Tree.{tree_of}
use Rattle.calculus_specs.specs.Rules.{Question}
use Rattle.calculus_specs.specs.declared.facts.Fact.{Fact}
use Rattle.calculus_specs.specs.declared.facts.Fact.TheVariants.{Has}
use Rattle.calculus_specs.specs.Line.{Line}
use Rattle.search_trace.specs.Premises.{Added, Rule, is_branching, is_single}
use Rattle.search_trace.specs.Leaves.{leaves}
use Rattle.search_trace.specs.Noted.{marked, Noted, start_of}
use Rattle.search_trace.specs.Trail.{MarkedFact, RuleHolds, Puts}
use Rattle.search_trace.specs.Back.{step_of}
use Rattle.search_trace.specs.Places.{Place, IsTraced, IsClosing, opened_place, turned_place}
use Rattle.search_trace.specs.declared.opens.OpenBranching.{OpenBranching}
use Rattle.search_trace.specs.declared.opens.Back.{Back}
use Rattle.search_trace.specs.declared.opens.Back.TheVariants.{Turned, Closed}
use Rattle.search_trace.specs.Trace.{TraceLists, begun, lines_in, next_line, with_line, with_branching, gone_back}
use Rattle.search_trace.specs.Trace.{turned_back, answer_of}

-- the branching stands at this place
pub record IsAt (o : OpenBranching) (p : Place) : Type 0 where
  pub mark : p.mark ≡ o.mark
  pub at : p.at ≡ o.at
  pub child : p.child ≡ o.child
  pub gathered : p.gathered ≡ o.gathered
  pub marks : p.marks ≡ o.marks
  pub left : length p.rest ≡ o.left

-- latest first
abbrev pub AreAt : List OpenBranching → List Place → Type 0
AreAt [] [] = Unit {0}
AreAt [] (p ∷ ps) = ⊥
AreAt (o ∷ os) [] = ⊥
AreAt (o ∷ os) (p ∷ ps) = IsAt o p × AreAt os ps

module _ (q : Question) (table : List Shape) (start : Noted) where
  -- it is the trace of a search whose open branchings are at these places, and whose trail has these facts
  pub record IsTracedAt (t : TraceLists) (ps : List Place) (ms : List MarkedFact) : Type 0 where
    pub are_at : AreAt t.opens ps
    pub traced : IsTraced q table start t.lines ps ms

  -- it is such a trace in which the open child of the latest branching is closed, and that rests on marks in u
  pub record IsClosingAt (t : TraceLists) (ps : List Place) (u : NumberSet) : Type 0 where
    pub are_at : AreAt t.opens ps
    pub closing : IsClosing q table start t.lines ps u

  -- what a line more makes of it
  pub record LinesAreTraced (t : TraceLists) (ps : List Place) (ms : List MarkedFact) : Type 0 where
    -- one with one child, of which the search puts some facts on its trail
    pub single : (line : Line) (marks : NumberSet) (r : Rule) (a : Added) (new : List (Fact ℕ))
        → RuleHolds q table ms (next_line t line marks) r → r.children ≡ a ∷ [] → is_single line ≡ true
        → Puts q.first table a new
        → IsTracedAt (with_line t line marks) ps (ms ++ map (marked marks) new)
    -- one that branches, at its first alternative
    pub branching : (line : Line) (marks : NumberSet) (r : Rule) (a : Added) (rest : List Added) (new : List (Fact ℕ))
        → RuleHolds q table ms (next_line t line marks) r → r.children ≡ a ∷ rest → is_branching line ≡ true
        → Puts q.first table a new
        → IsTracedAt (with_branching t line marks (length rest))
        (opened_place t.lines ms (next_line t line marks) rest ∷ ps) (ms ++ map (marked (sets.insert marks t.next)) new)
    -- a clash
    pub clash : (line : Line) (marks : NumberSet) (r : Rule) → RuleHolds q table ms (next_line t line marks) r
        → r.children ≡ [] → IsClosingAt (with_line t line marks) ps marks

  -- the branching of this place, which is the latest that is left, is at its next alternative
  pub record IsTurnedAt (after : TraceLists) (used : NumberSet) (p : Place) (older : List Place) (mark : ℕ)
      (marks : NumberSet) : Type 0 where
    pub mark_is : mark ≡ p.mark
    pub marks_are : marks ≡ sets.insert p.marks p.mark
    pub has_next : (a : Added) × (rest : List Added) × (p.rest ≡ a ∷ rest)
    pub traced : (a : Added) (rest : List Added) (new : List (Fact ℕ)) → p.rest ≡ a ∷ rest → Puts q.first table a new
        → IsTracedAt after (turned_place p after.lines used rest ∷ older) (p.facts ++ map (marked marks) new)

  -- where a trace that has gone back is: the latest branching that is left has turned, or the lines close everything
  abbrev pub IsLeft : TraceLists → NumberSet → List Place → Back → Type 0
  IsLeft after used [] Closed = leaves (step_of q table) (start ∷ []) after.lines ≡ Some []
  IsLeft after used [] (Turned mark marks) = ⊥
  IsLeft after used (p ∷ older) Closed = ⊥
  IsLeft after used (p ∷ older) (Turned mark marks) = IsTurnedAt after used p older mark marks

  -- it goes back over some of the places, and the others are left
  pub record GoesBack (t : TraceLists) (ps : List Place) (u : NumberSet) : Type 0 where
    pub passed : List Place
    pub left : List Place
    pub places_are : passed ++ left ≡ ps
    pub same_count : length left ≡ length (turned_back t u).opens
    pub is_left : IsLeft (turned_back t u) (gone_back t.lines t.opens u).used left (answer_of t u)

-- a search that begins has a trace
abbrev pub TracesBegin : Type 0
TracesBegin = (q : Question) (table : List Shape) (sub_number not_sup_number : ℕ)
    → tree_of table sub_number ≡ normal_form q.sub → tree_of table not_sup_number ≡ negated_form q.sup
    → IsTracedAt q table (start_of q) begun []
    (marked sets.empty (Has q.at sub_number) ∷ marked sets.empty (Has q.at not_sup_number) ∷ [])

-- where a trace is right, it is right after each line that a step of the search adds
abbrev pub TracesGoOn : Type 0
TracesGoOn = (q : Question) (table : List Shape) (start : Noted) (t : TraceLists) (ps : List Place)
    (ms : List MarkedFact)
    → IsTracedAt q table start t ps ms → LinesAreTraced q table start t ps ms

-- where a trace is right and a branch closes, what going back makes of it is right
abbrev pub TracesGoBack : Type 0
TracesGoBack = (q : Question) (table : List Shape) (start : Noted) (t : TraceLists) (ps : List Place) (u : NumberSet)
    → IsClosingAt q table start t ps u → GoesBack q table start t ps u

-- going back leaves no line but lines that were there
abbrev pub GoingBackKeepsKinds : Type 0
GoingBackKeepsKinds = (p : Line → Bool) (t : TraceLists) (u : NumberSet) → list_all p (lines_in t) ≡ true
    → list_all p (lines_in (turned_back t u)) ≡ true
