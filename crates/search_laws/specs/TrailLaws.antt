-- Laws of reached and saturated trails, and of theories.
use Rattle.std.specs.Prelude.{◌≡◌, ℕ, ◌<◌, ◌≤◌, true, ◌↔◌, List, length}
use Rattle.shq_terms.specs.declared.axioms.Numbered.{Numbered}
use Rattle.ontology_limits.specs.Truth.{Interpretation, meets_all}
use Rattle.calculus_specs.specs.Shape.{shape_of}
use Rattle.calculus_specs.specs.Shape.Shape.{at_most}
use Rattle.calculus_specs.specs.State.{node_count_from, has}
use Rattle.shq_terms.specs.Uses.{all_use_listed}
use Rattle.refutation_truth.specs.Theory.{named_axioms, theory_of, fact_of_axiom}
use Rattle.tableau_specs.specs.declared.Item.{Item}
use Rattle.tableau_specs.specs.Items.{facts_of}
use Rattle.tableau_specs.specs.Clash.{filled_successors}
use Rattle.tableau_specs.specs.Steps.{SearchContext, below_of, IsSaturated}
use Rattle.tableau_specs.specs.Reached.{start, Follows}
use Rattle.search_laws.specs.Theories.{MeetsRoles, MeetsParts, MeetsFacts}

-- the concepts of the start stay
abbrev pub StartStays : Type 0
StartStays = (w : SearchContext) (at sub not_sup k : ℕ) (trail : List Item) → Follows w (start at sub not_sup) k trail
    → (has (facts_of trail) at sub ≡ true) × (has (facts_of trail) at not_sup ≡ true)

-- where a node has 'at most n', n successors with the filler at most are counted
abbrev pub FewSuccessorsFit : Type 0
FewSuccessorsFit = (w : SearchContext) (trail : List Item) → IsSaturated w trail
    → (x c n s e : ℕ) → x < node_count_from w.first (facts_of trail) → has (facts_of trail) x c ≡ true
    → shape_of w.table c ≡ at_most n s e
    → length (filled_successors w.first (below_of w) (facts_of trail) x s e) ≤ n

-- where all names that axioms use are listed, n of them individuals, the axioms of these numbers are met exactly where
-- their theory is, and all facts that they give
abbrev pub TheoriesAreTheirAxioms : Type 0
TheoriesAreTheirAxioms = (i : Interpretation) (classes roles n : ℕ) (axioms : List Numbered) (ks : List ℕ)
    → all_use_listed classes roles n axioms ≡ true
    → (meets_all i (named_axioms axioms ks) ≡ true)
    ↔ (MeetsRoles (theory_of axioms ks) i × MeetsParts (theory_of axioms ks) i
    × MeetsFacts (fact_of_axiom n axioms ks) i)
