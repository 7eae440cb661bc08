-- Laws of traces with marks: what closes, what may be taken out, and that a trace that is closed is a refutation.
use Rattle.std.specs.Prelude.{◌<◌, ◌==◌, Bool, ◌≡◌, ℕ, true, false, List, [], ◌∷◌, ◌++◌, map, Option, Some, All}
use Rattle.std.specs.List.{list_any}
use Rattle.std.specs.FinSet as sets
use Rattle.calculus_specs.specs.Concept.{Concept}
use Rattle.refutation_tree.specs.NumberSets.{NumberSet}
use Rattle.calculus_specs.specs.Normal.{normal_form, negated_form}
use Rattle.calculus_specs.specs.Shape.{Shape, IsTable}
use Rattle.calculus_specs.specs.Tree.{tree_of}
use Rattle.calculus_specs.specs.Rows.{Theory}
use Rattle.calculus_specs.specs.declared.facts.Fact.{Fact}
use Rattle.calculus_specs.specs.declared.facts.Fact.TheVariants.{Has}
use Rattle.calculus_specs.specs.State.{node_count_from, is_given, has_edge}
use Rattle.tableau_specs.specs.declared.Item.{Item}
use Rattle.tableau_specs.specs.Items.{facts_of}
use Rattle.tableau_specs.specs.Lines.{known_by, concept_in}
use Rattle.calculus_specs.specs.Line.{Line}
use Rattle.calculus_specs.specs.Line.Line.{start_line}
use Rattle.calculus_specs.specs.Rules.{Question, Known, children_of}
use Rattle.calculus_specs.specs.Valid.{concept_at, open_after_all, IsRefutation}
use Rattle.search_trace.specs.Premises.{Premise, holds, Added, Rule, rule_of, children_by, is_start, is_branching}
use Rattle.search_trace.specs.Premises.{is_single}
use Rattle.search_trace.specs.Leaves.{leaves}
use Rattle.search_trace.specs.Frames.{Frame, IsOpen}
use Rattle.search_trace.specs.Noted.{marked, marks_given, within, items, Noted, NotedLine, noted_children, start_of}
use Rattle.search_trace.specs.Noted.{strip, closing_rests_on}
use Rattle.search_trace.specs.Among.{IsPart}
use Rattle.search_trace.specs.Renumbered.{renumbered, Reads}
use Rattle.search_trace.specs.Named.{AskTheSame, HaveSamePart}
use Rattle.search_trace.specs.Trail.{MarkedFact, nodes_of, trail_within, AllWithin, RuleHolds, Puts}
use Rattle.search_trace.specs.Back.{step_of}
use Rattle.search_trace.specs.ByShape.{RulesByShape}
use Rattle.search_trace.specs.Grounded.{is_known_within, AreGrounded}
use Rattle.search_trace.specs.Chronological.{choices_of, marked_facts, HoldsByAll}
use Rattle.search_trace.specs.Places.{Place, IsTraced, IsClosing, opened_place, turned_place, place_marks}
use Rattle.search_trace.specs.Places.{without_place, Ascend, resting, others}

-- but for `start`, what a line asks of a branch is a list of facts, and what it adds does not depend on the branch
abbrev pub RulesSayChildren : Type 0
RulesSayChildren = (q : Question) (concept : ℕ → Option Concept) (k : Known) (line : Line) → is_start line ≡ false
    → children_of q concept k line ≡ children_by q k (rule_of q concept line)

-- a fact that holds in a branch holds in one that knows more, also where that joins more nodes
abbrev pub PremisesStay : Type 0
PremisesStay = (theory : Theory) (less more : Known) → IsPart less more → (p : Premise) → holds theory less p ≡ true
    → holds theory more p ≡ true

-- lines that close the open child of a branching, where neither a branching nor a clash among them rests on its mark,
-- close the branch before it, without the lines that rest on the mark
abbrev pub StrippedLinesClose : Type 0
StrippedLinesClose =
    (q : Question) (table : List Shape) (from : Noted) (f : Frame Noted NotedLine) → IsOpen (step_of q table) from f
    → is_branching f.branching.line ≡ true
    → (lines : List NotedLine) → closing_rests_on f.branching.number lines ≡ false
    → leaves (step_of q table) (f.kid ∷ []) lines ≡ Some []
    → leaves (step_of q table) (from ∷ []) (f.before ++ strip f.branching.number lines) ≡ Some []

-- ---- the steps of a search, and of going back

-- what the steps of a search make of its trace
pub record TraceSteps (q : Question) (table : List Shape) (start : Noted) (lines : List NotedLine) (ps : List Place)
    (ms : List MarkedFact) : Type 0 where
  -- a line with one child, of which the search puts some facts on its trail
  pub line : (l : NotedLine) (r : Rule) (a : Added) (new : List (Fact ℕ)) → RuleHolds q table ms l r
      → r.children ≡ a ∷ [] → is_single l.line ≡ true → Puts q.first table a new
      → IsTraced q table start (lines ++ l ∷ []) ps (ms ++ map (marked (marks_given l)) new)
  -- a line that branches, at its first alternative
  pub branching : (l : NotedLine) (r : Rule) (a : Added) (rest : List Added) (new : List (Fact ℕ))
      → RuleHolds q table ms l r → r.children ≡ a ∷ rest → is_branching l.line ≡ true → Puts q.first table a new
      → IsTraced q table start (lines ++ l ∷ []) (opened_place lines ms l rest ∷ ps)
      (ms ++ map (marked (marks_given l)) new)
  -- a clash
  pub clash : (l : NotedLine) (r : Rule) → RuleHolds q table ms l r → r.children ≡ []
      → IsClosing q table start (lines ++ l ∷ []) ps l.marks
  -- closed at its open places, the trace closes everything
  pub open_places : (left : List Noted) × (now : Noted)
      × (leaves (step_of q table) (start ∷ []) lines ≡ Some (now ∷ left))

-- where a trace is right, it is right after each step
abbrev pub StepsAreTraced : Type 0
StepsAreTraced = (q : Question) (table : List Shape) (start : Noted) (lines : List NotedLine) (ps : List Place)
    (ms : List MarkedFact)
    → IsTraced q table start lines ps ms → TraceSteps q table start lines ps ms

-- what may be done with the latest open branching once its open child is closed
pub record ClosingSteps (q : Question) (table : List Shape) (start : Noted) (lines : List NotedLine) (p : Place)
    (ps : List Place) (u : NumberSet) : Type 0 where
  -- where closing does not rest on its mark it is taken out
  pub stripped : sets.contains u p.mark ≡ false → IsClosing q table start (without_place p lines) ps u
  -- where no alternative is left it is closed
  pub whole : p.rest ≡ [] → IsClosing q table start lines ps (place_marks p u)
  -- else it turns to the next one
  pub turned : (a : Added) (rest : List Added) (new : List (Fact ℕ)) → p.rest ≡ a ∷ rest → Puts q.first table a new
      → IsTraced q table start lines (turned_place p lines u rest ∷ ps)
      (p.facts ++ map (marked (sets.insert p.marks p.mark)) new)

-- once the open child of the latest branching is closed, going back may do with it what it does
abbrev pub ClosingGoesBack : Type 0
ClosingGoesBack = (q : Question) (table : List Shape) (start : Noted) (lines : List NotedLine) (p : Place)
    (ps : List Place) (u : NumberSet)
    → IsClosing q table start lines (p ∷ ps) u → ClosingSteps q table start lines p ps u

-- where no branching is open, the lines close everything
abbrev pub ClosingEnds : Type 0
ClosingEnds = (q : Question) (table : List Shape) (start : Noted) (lines : List NotedLine) (u : NumberSet)
    → IsClosing q table start lines [] u → leaves (step_of q table) (start ∷ []) lines ≡ Some []

-- lines whose numbers ascend are taken out by their numbers
abbrev pub NumbersTakeOut : Type 0
NumbersTakeOut = (m n : ℕ) (ls : List NotedLine) → Ascend n ls → others (resting m ls) ls ≡ strip m ls

-- the trace of a search that begins is that of its two facts
abbrev pub StartIsTraced : Type 0
StartIsTraced = (q : Question) (table : List Shape) (sub_number not_sup_number : ℕ)
    → tree_of table sub_number ≡ normal_form q.sub → tree_of table not_sup_number ≡ negated_form q.sup
    → IsTraced q table (start_of q) [] []
    (marked sets.empty (Has q.at sub_number) ∷ marked sets.empty (Has q.at not_sup_number) ∷ [])

-- lines that close everything are a refutation, over shapes by whose numbers theirs are replaced
abbrev pub ClosedTracesRefute : Type 0
ClosedTracesRefute =
    (q : Question) → q.at < q.first
    → (concept : ℕ → Option Concept) (shapes : List Shape) (f : ℕ → ℕ) (ls : List NotedLine)
    → All (Reads concept (concept_at shapes) f) (map (λ l. l.line) ls)
    → leaves (noted_children q concept) (start_of q ∷ []) ls ≡ Some []
    → IsRefutation q shapes (start_line ∷ map (renumbered f) (map (λ l. l.line) ls))

-- what a line asks and adds, by the shapes of the table that its numbers are of
abbrev pub RulesFollowShapes : Type 0
RulesFollowShapes = (q : Question) (table : List Shape) → IsTable table → RulesByShape q table

-- ---- marks of premises

-- what holds by facts that rest on some marks holds by those that rest on more
abbrev pub MoreMarksHold : Type 0
MoreMarksHold = (first : ℕ) (table : List Shape) (u v : NumberSet) → sets.is_subset u v ≡ true → (ms : List MarkedFact)
    → IsPart (trail_within first table u ms) (trail_within first table v ms)

-- nodes of which facts speak that rest on marks in u are known by such facts
pub record KnowsNodes (first : ℕ) (u : NumberSet) (ms : List MarkedFact) : Type 0 where
  pub given : (kind : ℕ → Bool) (x : ℕ) → is_given kind (within u ms) x ≡ true → is_known_within first u ms x ≡ true
  pub edge : (roles : ℕ → Bool) (x y : ℕ) → has_edge (within u ms) roles x y ≡ true
      → (is_known_within first u ms x ≡ true) × (is_known_within first u ms y ≡ true)

-- where facts are grounded, the nodes of each are known by its own marks
abbrev pub GroundedFactsKnow : Type 0
GroundedFactsKnow = (first : ℕ) (u : NumberSet) (ms : List MarkedFact) → AreGrounded first ms → KnowsNodes first u ms

-- ---- a search that keeps no marks

-- every fact of a trail rests on the choices of the trail
abbrev pub TrailsRestOnChoices : Type 0
TrailsRestOnChoices = (is : List Item)
    → AllWithin (choices_of is) (marked_facts is) × (items (marked_facts is) ≡ facts_of is)

-- a line whose premises hold in the state has them by facts that rest on all choices
abbrev pub LinesHoldByAll : Type 0
LinesHoldByAll = (q : Question) (table : List Shape) (u : NumberSet) (ms : List MarkedFact) (line : Line)
    → AllWithin u ms
    → ((x : ℕ) → x < node_count_from q.first (items ms) → list_any (λ y. y == x) (items (nodes_of q.first ms)) ≡ true)
    → is_start line ≡ false
    → (kids : List Known) → children_of q (concept_in table) (known_by q.first table (items ms)) line ≡ Some kids
    → HoldsByAll q table u ms line

-- ---- the axioms that lines name

-- lines run the same way for questions that ask the same over the same roles, and have the same parts and the same
-- facts of the axioms that they name
abbrev pub NamedPartsServe : Type 0
NamedPartsServe = (one other : Question) (concept : ℕ → Option Concept) → AskTheSame one other → (lines : List Line)
    → All (HaveSamePart one other) lines → (ks : List Known)
    → open_after_all one concept ks lines ≡ open_after_all other concept ks lines
