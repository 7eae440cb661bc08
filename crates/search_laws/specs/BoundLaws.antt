-- The bounds of a search.
use Rattle.std.specs.Prelude.{◌≡◌, ℕ, suc, ◌+◌, ◌*◌, ◌^◌, ◌<◌, ◌≤◌, ◌==◌, Bool, true, false, List, [], ◌∷◌, length}
use Rattle.std.specs.Prelude.{Option, None, Some}
use Rattle.ontology_limits.specs.Below.{count_below}
use Rattle.shq_terms.specs.declared.axioms.Numbered.{Numbered}
use Rattle.shq_terms.specs.declared.axioms.Query.{Query}
use Rattle.refutation_truth.specs.Theory.{question_of}
use Rattle.search_laws.specs.ComputedClosure.{HasFacts, given_facts, closure_of}
use Rattle.shq_terms.specs.Concept.{Concept}
use Rattle.calculus_specs.specs.Shape.{Shape}
use Rattle.calculus_specs.specs.Tree.{tree_of}
use Rattle.calculus_specs.specs.Rows.{Theory, Row}
use Rattle.calculus_specs.specs.Rules.{Question}
use Rattle.calculus_specs.specs.declared.facts.Fact.{Fact}
use Rattle.calculus_specs.specs.State.{node_count_from, parent_from, has}
use Rattle.tableau_specs.specs.declared.Item.{Item}
use Rattle.tableau_specs.specs.declared.Item.TheVariants.{Fact as Says, Mark}
use Rattle.tableau_specs.specs.Items.{facts_of}
use Rattle.tableau_specs.specs.Reached.{start, context_of, IsReached}
use Rattle.search_laws.specs.KeptSteps.{IsGrown, StepCounts, step_counts}
use Rattle.search_laws.specs.Closure.{IsInClosure, IsClosure, most_made, step_bound, nodes_of, steps_of}

-- ---- concepts

-- each concept of a reached trail is in the closure
abbrev pub ConceptsAreInClosure : Type 0
ConceptsAreInClosure = (q : Question) (table : List Shape) (rows : List Row) (k : ℕ) (trail : List Item)
    → IsReached q table rows k trail
    → (x c : ℕ) → has (facts_of trail) x c ≡ true → IsInClosure q (tree_of table c)

-- ---- marks

-- how many marks stand in a trail
abbrev pub mark_count : List Item → ℕ
mark_count [] = 0
mark_count (Says f ∷ is) = mark_count is
mark_count (Mark c ∷ is) = suc (mark_count is)

-- each mark stands at its first alternative
abbrev pub AreAtFirst : List Item → Type 0
AreAtFirst [] = Unit {0}
AreAtFirst (Says f ∷ is) = AreAtFirst is
AreAtFirst (Mark c ∷ is) = (c.alternative ≡ 1) × AreAtFirst is

-- ---- steps that a trail keeps

-- each reached trail keeps some
abbrev pub TrailsKeepSteps : Type 0
TrailsKeepSteps = (q : Question) (table : List Shape) (rows : List Row) (k : ℕ) (trail : List Item)
    → (r : IsReached q table rows k trail)
    → (ds : List ℕ) × IsGrown (context_of q table rows) (start q.at r.sub_number r.not_sup_number) ds trail

-- so many steps of each kind at most, where the closure has c concepts, the trail v nodes, and axioms give f facts
pub record AreFewOfEach (c v f : ℕ) (n : StepCounts) : Type 0 where
  pub adding : n.adding ≤ v * c
  pub giving : n.giving ≤ f
  pub making : n.making ≤ v
  pub joining : n.joining ≤ v
  pub parting : n.parting ≤ v * v

-- a trail keeps few steps of each kind, by its nodes, its concepts and the given facts
abbrev pub FewOfEachKind : Type 0
FewOfEachKind =
    (q : Question) (cs : List Concept) (facts : List (Fact Concept)) (table : List Shape) (rows : List Row) (k : ℕ)
    (trail : List Item)
    → IsClosure q cs → HasFacts q facts → (r : IsReached q table rows k trail)
    → (ds : List ℕ)
    → (grown : IsGrown (context_of q table rows) (start q.at r.sub_number r.not_sup_number) ds trail)
    → AreFewOfEach (length cs) (node_count_from q.first (facts_of trail)) (length facts)
    (step_counts (context_of q table rows) (start q.at r.sub_number r.not_sup_number) ds trail grown)

-- where no mark has gone on to a later alternative, the steps are at most so many; each given fact is put once at most
abbrev pub FewStepsAtFirst : Type 0
FewStepsAtFirst =
    (q : Question) (cs : List Concept) (facts : List (Fact Concept)) (table : List Shape) (rows : List Row) (k : ℕ)
    (trail : List Item)
    → IsClosure q cs → HasFacts q facts → IsReached q table rows k trail → AreAtFirst trail
    → k ≤ node_count_from q.first (facts_of trail) * (length cs + 2) + length facts

-- a trail has few marks, by its nodes and the concepts of the closure
abbrev pub FewMarks : Type 0
FewMarks = (q : Question) (cs : List Concept) (table : List Shape) (rows : List Row) (k : ℕ) (trail : List Item)
    → IsClosure q cs → IsReached q table rows k trail
    → mark_count trail
    ≤ node_count_from q.first (facts_of trail) * (node_count_from q.first (facts_of trail) + length cs + 1)

-- ---- nodes

-- a first node is one without a parent
pub record IsFirst (first : ℕ) (fs : List (Fact ℕ)) (x : ℕ) : Type 0 where
  pub is_node : x < node_count_from first fs
  pub has_no_parent : parent_from first fs x ≡ None

-- the path from a first node to the node, by parents, has n nodes
pub data HasPath (first : ℕ) (fs : List (Fact ℕ)) : ℕ → ℕ → Type 0 where
  from_first : (x : ℕ) → IsFirst first fs x → HasPath first fs x 1
  below : (x p n : ℕ) → parent_from first fs x ≡ Some p → HasPath first fs p n → HasPath first fs x (suc n)

-- paths are short, whatever facts are given
abbrev pub PathsAreShort : Type 0
PathsAreShort = (q : Question) (cs : List Concept) (table : List Shape) (rows : List Row) (k : ℕ) (trail : List Item)
    → IsClosure q cs → IsReached q table rows k trail
    → (x n : ℕ) → HasPath q.first (facts_of trail) x n → n ≤ 2 ^ length cs + 1

-- each role is below itself
abbrev pub RolesAreBelowThemselves : Theory → Type 0
RolesAreBelowThemselves theory = (s : ℕ) → theory.below s s ≡ true

-- how many nodes have x as their parent
abbrev pub is_at : ℕ → Option ℕ → Bool
is_at x None = false
is_at x (Some p) = p == x

-- how many nodes have this one as their parent
abbrev pub children : ℕ → List (Fact ℕ) → ℕ → ℕ
children first fs x = count_below (node_count_from first fs) (λ z. is_at x (parent_from first fs z))

-- below a node few are made, where a new edge is one below its own role
abbrev pub FewChildren : Type 0
FewChildren = (q : Question) (cs : List Concept) (table : List Shape) (rows : List Row) (k : ℕ) (trail : List Item)
    → RolesAreBelowThemselves q.theory → IsClosure q cs → IsReached q table rows k trail
    → (x : ℕ) → children q.first (facts_of trail) x ≤ length cs * most_made cs

-- a trail has few nodes for each first node, where a new edge is one below its own role
abbrev pub FewNodes : Type 0
FewNodes = (q : Question) (cs : List Concept) (table : List Shape) (rows : List Row) (k : ℕ) (trail : List Item)
    → RolesAreBelowThemselves q.theory → IsClosure q cs → IsReached q table rows k trail
    → node_count_from q.first (facts_of trail) ≤ nodes_of q.first cs

-- ---- steps

-- a search takes few steps; the list has each given fact
abbrev pub FewSteps : Type 0
FewSteps =
    (q : Question) (cs : List Concept) (facts : List (Fact Concept)) (table : List Shape) (rows : List Row) (k : ℕ)
    (trail : List Item)
    → RolesAreBelowThemselves q.theory → IsClosure q cs → HasFacts q facts → IsReached q table rows k trail
    → k ≤ steps_of q.first (length facts) cs

-- ---- over axioms

-- where n individuals are listed; c is the number of concepts in the closure, v that of the trail's nodes, and f that
-- of the facts that the axioms give
pub record IsBounded (n : ℕ) (axioms : List Numbered) (ks : List ℕ) (q : Query) (k : ℕ) (trail : List Item) :
    Type 0 where
  pub all_steps : n ≡ 0 → k ≤ step_bound (closure_of n axioms ks q)
  pub all_steps_of_trees : k ≤ steps_of (n + 1) (length (given_facts n axioms ks)) (closure_of n axioms ks q)
  pub nodes : node_count_from (n + 1) (facts_of trail) ≤ nodes_of (n + 1) (closure_of n axioms ks q)
  pub steps_at_first : AreAtFirst trail
      → k ≤ node_count_from (n + 1) (facts_of trail) * (length (closure_of n axioms ks q) + 2)
      + length (given_facts n axioms ks)
  pub marks : mark_count trail
      ≤ node_count_from (n + 1) (facts_of trail)
      * (node_count_from (n + 1) (facts_of trail) + length (closure_of n axioms ks q) + 1)

-- a run of legal steps is no longer than a number that axioms and query give
abbrev pub LegalRunsAreBounded : Type 0
LegalRunsAreBounded =
    (n : ℕ) (axioms : List Numbered) (ks : List ℕ) (q : Query) (table : List Shape) (rows : List Row) (k : ℕ)
    (trail : List Item)
    → IsReached (question_of n axioms ks q) table rows k trail → IsBounded n axioms ks q k trail
