-- Rule lines that follow from facts of a trail which rest on the line's marks alone.
use Rattle.std.specs.Prelude.{◌≡◌, ℕ, nat_lt, Bool, true, List, [], ◌∷◌, length}
use Rattle.std.specs.List.{list_all}
use Rattle.std.specs.FinSet as sets
use Rattle.shq_terms.specs.Concept.{Concept}
use Rattle.lane_sieve.specs.Sets.{NumberSet}
use Rattle.calculus_specs.specs.Tree.{tree_of}
use Rattle.calculus_specs.specs.Rules.{Question}
use Rattle.calculus_specs.specs.declared.facts.Fact.{Fact}
use Rattle.calculus_specs.specs.declared.facts.Fact.TheVariants.{Has}
use Rattle.calculus_specs.specs.State.{node_count_from, fresh_facts}
use Rattle.calculus_specs.specs.Line.{Line}
use Rattle.search_trace.specs.RuleLine.{concept_numbers}
use Rattle.tableau_specs.specs.declared.Branch.{Branch}
use Rattle.tableau_specs.specs.KeptKinds.{IsKept}
use Rattle.tableau_specs.specs.StepLaws.{AreOfKind}
use Rattle.tableau_specs.specs.Steps.{SearchContext}
use Rattle.search_trace.specs.Premises.{Added, is_single, is_branching}
use Rattle.search_trace.specs.Grounded.{named, is_known_within}
use Rattle.search_trace.specs.Trail.{Puts}
use Rattle.step_agenda.specs.Entry.{Entry}
use Rattle.step_agenda.specs.Trail.{facts_in}
use Rattle.step_finders.specs.declared.make.NewNodes.{NewNodes}
use Rattle.step_lines.specs.Serving.{HoldsAt, HasPart, branch_nodes}
use Rattle.search_state.specs.Marked.{marked_in}
use Rattle.search_state.specs.Branchings.{AreAlternatives}

-- what the line asks holds by facts that rest on marks in u alone, its children add that, and these nodes are known by
-- such facts
pub record IsResting (w : SearchContext) (es : List Entry) (line : Line) (u : NumberSet) (children : List Added)
    (nodes : List ℕ) : Type 0 where
  pub holds : (q : Question) (number : ℕ)
      → HoldsAt w q (marked_in es) (record { number = number; line = line; marks = u }) children
  pub knows : list_all (is_known_within w.first u (marked_in es)) nodes ≡ true
  pub of_kind : (p : Concept → Bool) (e : ℕ → Bool) → IsKept w.theory w.fact_of (λ c. p c ≡ true) (λ r. e r ≡ true)
      → AreOfKind w.table (facts_in es) p e
      → list_all (λ c. p (tree_of w.table c)) (concept_numbers line) ≡ true
  pub numbered : list_all (λ c. nat_lt c (length w.table)) (concept_numbers line) ≡ true
  pub has_part : HasPart w line

-- the line gives node x the concept d
pub record RestsAddition (w : SearchContext) (es : List Entry) (x d : ℕ) (line : Line) (u : NumberSet) : Type 0 where
  pub child : Added
  pub resting : IsResting w es line u (child ∷ []) (x ∷ [])
  pub puts : Puts w.first w.table child (Has x d ∷ [])
  pub single : is_single line ≡ true

-- the line makes these nodes
pub record RestsNewNodes (w : SearchContext) (es : List Entry) (m : NewNodes) (line : Line) (u : NumberSet) :
    Type 0 where
  pub child : Added
  pub resting : IsResting w es line u (child ∷ []) (m.parent ∷ [])
  pub puts : Puts w.first w.table child
      (fresh_facts m.parent m.role m.filler (node_count_from w.first (facts_in es)) m.count)
  pub single : is_single line ≡ true

-- the line gives this fact, and rests on nothing
pub record RestsGiven (w : SearchContext) (es : List Entry) (f : Fact ℕ) (line : Line) (u : NumberSet) : Type 0 where
  pub child : Added
  pub resting : IsResting w es line u (child ∷ []) (named f)
  pub puts : Puts w.first w.table child (f ∷ [])
  pub single : is_single line ≡ true
  pub on_nothing : u ≡ sets.empty

-- the line branches as the choice does
pub record RestsChoice (w : SearchContext) (es : List Entry) (b : Branch) (line : Line) (u : NumberSet) : Type 0 where
  pub children : List Added
  pub resting : IsResting w es line u children (branch_nodes b)
  pub alternatives : AreAlternatives w (facts_in es) b children
  pub branching : is_branching line ≡ true

-- the line closes its branch
pub record RestsClash (w : SearchContext) (es : List Entry) (line : Line) (u : NumberSet) : Type 0 where
  pub resting : IsResting w es line u [] []
