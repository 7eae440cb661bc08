-- Rule lines with facts that their premises follow from.
use Rattle.std.specs.Prelude.{◌≡◌, ℕ, ◌≤◌, nat_lt, Bool, true, List, [], ◌∷◌, ◌++◌, map, length, Some}
use Rattle.std.specs.List.{list_all}
use Rattle.std.specs.FinSet as sets
use Rattle.shq_terms.specs.Concept.{Concept}
use Rattle.lane_sieve.specs.Sets.{NumberSet}
use Rattle.calculus_specs.specs.Rows.{Part, part_at}
use Rattle.calculus_specs.specs.Rules.{Question}
use Rattle.calculus_specs.specs.Shape.{Shape}
use Rattle.calculus_specs.specs.Tree.{tree_of}
use Rattle.calculus_specs.specs.declared.facts.Fact.{Fact}
use Rattle.calculus_specs.specs.State.{is_so, fresh_facts}
use Rattle.calculus_specs.specs.Line.{Line}
use Rattle.calculus_specs.specs.Line.Line.{start_line, and_line, or_line, all_line, carry_line, row_line, range_line}
use Rattle.calculus_specs.specs.Line.Line.{some_line, least_line, choose_line, pair_line, bottom_line, clash_line}
use Rattle.calculus_specs.specs.Line.Line.{most_line, fact_line, differ_line}
use Rattle.search_trace.specs.RuleLine.{concept_numbers}
use Rattle.tableau_specs.specs.KeptKinds.{IsKept}
use Rattle.tableau_specs.specs.Lines.{asked_in}
use Rattle.tableau_specs.specs.StepLaws.{AreOfKind}
use Rattle.tableau_specs.specs.Steps.{SearchContext, IsAlternative}
use Rattle.tableau_specs.specs.declared.Branch.{Branch}
use Rattle.tableau_specs.specs.declared.Branch.TheVariants.{Or, Choose, Pair}
use Rattle.search_trace.specs.Grounded.{named, is_known_within, AreGrounded}
use Rattle.search_trace.specs.Noted.{marked, within, items, NotedLine}
use Rattle.search_trace.specs.Premises.{Added, Rule}
use Rattle.search_trace.specs.Trail.{MarkedFact, RuleHolds}

-- in a search for what is in question, what the line asks holds by facts that rest on its marks alone, and its children
-- add that
pub record HoldsAt (w : SearchContext) (q : Question) (ms : List MarkedFact) (l : NotedLine) (children : List Added) :
    Type 0 where
  pub rule : Rule
  pub holds : RuleHolds (asked_in w q) w.table ms l rule
  pub children_are : rule.children ≡ children

-- the grounds hold by facts that rest on marks in u alone
abbrev pub HoldWithin : NumberSet → List MarkedFact → List (Fact ℕ) → Type 0
HoldWithin u ms grounds = list_all (is_so (within u ms)) grounds ≡ true

-- where the line names a part or a fact of an axiom, that is there
abbrev pub HasPart : SearchContext → Line → Type 0
HasPart w (row_line x a p positions) = (q : Part) × (part_at w.theory a p ≡ Some q)
HasPart w (range_line x y a) = (q : Part) × (part_at w.theory a 1 ≡ Some q)
HasPart w (fact_line a p) = (f : Fact Concept) × (w.fact_of a p ≡ Some f)
HasPart w start_line = Unit {0}
HasPart w (and_line x c) = Unit {0}
HasPart w (or_line x c) = Unit {0}
HasPart w (all_line x y c) = Unit {0}
HasPart w (carry_line x y t c) = Unit {0}
HasPart w (some_line x y c) = Unit {0}
HasPart w (least_line x y c) = Unit {0}
HasPart w (choose_line y c) = Unit {0}
HasPart w (pair_line y z) = Unit {0}
HasPart w (bottom_line x) = Unit {0}
HasPart w (clash_line x c) = Unit {0}
HasPart w (most_line x c ys) = Unit {0}
HasPart w (differ_line y z) = Unit {0}

-- the grounds are so, and the line's premises follow from them; its children add that, and these nodes are known by the
-- same marks; the concepts that the line names are numbers of the table, and of each kind that the rules keep
pub record Serves (w : SearchContext) (fs : List (Fact ℕ)) (line : Line) (grounds : List (Fact ℕ))
    (children : List Added) (nodes : List ℕ) : Type 0 where
  pub are_so : list_all (is_so fs) grounds ≡ true
  pub holds_by : (q : Question) (number : ℕ) (u : NumberSet) (ms : List MarkedFact) → items ms ≡ fs
      → AreGrounded w.first ms → HoldWithin u ms grounds
      → HoldsAt w q ms (record { number = number; line = line; marks = u }) children
  pub knows : (u : NumberSet) (ms : List MarkedFact) → AreGrounded w.first ms → HoldWithin u ms grounds
      → list_all (is_known_within w.first u ms) nodes ≡ true
  pub of_kind : (p : Concept → Bool) (e : ℕ → Bool) → IsKept w.theory w.fact_of (λ c. p c ≡ true) (λ r. e r ≡ true)
      → AreOfKind w.table fs p e
      → list_all (λ c. p (tree_of w.table c)) (concept_numbers line) ≡ true
  pub numbered : list_all (λ c. nat_lt c (length w.table)) (concept_numbers line) ≡ true
  pub has_part : HasPart w line

-- ---- going on

-- a fact more, with marks by which its nodes are known
abbrev pub FactsStayGrounded : Type 0
FactsStayGrounded = (first : ℕ) (u v : NumberSet) (ms : List MarkedFact) (f : Fact ℕ) → AreGrounded first ms
    → sets.is_subset u v ≡ true
    → list_all (is_known_within first u ms) (named f) ≡ true → AreGrounded first (ms ++ map (marked v) (f ∷ []))

-- the facts of new nodes, with marks by which their parent is known
abbrev pub NewNodesStayGrounded : Type 0
NewNodesStayGrounded = (first : ℕ) (u : NumberSet) (ms : List MarkedFact) (x s e from n : ℕ) → first ≤ from
    → AreGrounded first ms → is_known_within first u ms x ≡ true
    → AreGrounded first (ms ++ map (marked u) (fresh_facts x s e from n))

-- the nodes of which the alternatives of a branch speak
abbrev pub branch_nodes : Branch → List ℕ
branch_nodes (Or x c) = x ∷ []
branch_nodes (Choose y c) = y ∷ []
branch_nodes (Pair y z) = y ∷ z ∷ []

-- each alternative of a choice speaks of the nodes of the choice
abbrev pub AlternativesSpeakOfNodes : Type 0
AlternativesSpeakOfNodes = (table : List Shape) (b : Branch) (n : ℕ) (f : Fact ℕ) → IsAlternative table b n f
    → named f ≡ branch_nodes b
