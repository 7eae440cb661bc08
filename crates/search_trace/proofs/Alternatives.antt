-- The choices of a search as lines that branch.
use Rattle.std.proofs.Common.{◌≡◌, ℕ, zero, suc, ◌+◌, List, [], ◌∷◌, map, Option, Some, None, refl, ap, subst, arith}
use Rattle.std.specs.Prelude.{slice_get}
use Rattle.calculus_specs.specs.Concept.{Concept}
use Rattle.calculus_specs.specs.Normal.{negated_form}
use Rattle.calculus_specs.specs.Shape.{Shape, IsTable}
use Rattle.calculus_specs.specs.Tree.{tree_of}
use Rattle.calculus_specs.specs.Rules.{Question}
use Rattle.calculus_specs.specs.declared.facts.Fact.{Fact}
use Rattle.calculus_specs.specs.declared.facts.Fact.TheVariants.{Has, Apart, Same}
use Rattle.tableau_specs.specs.declared.Branch.{Branch}
use Rattle.tableau_specs.specs.Steps.{IsAlternative}
use Rattle.tableau_specs.specs.Steps.IsAlternative.{of_union, of_filler, of_complement, of_joining, of_parting}
use Rattle.search_trace.specs.Premises.{more_facts}
use Rattle.search_trace.specs.Among.{IsAmong}
use Rattle.search_trace.specs.Trail.{some_facts}
use Rattle.search_trace.specs.Alternatives.{HasShape, IsPut}
use Rattle.search_trace.proofs.ByShape.{rules_by_shape}

get-map : {A B : Type 0} → (f : A → B) (xs : List A) (k : ℕ) (v : A) → slice_get xs k ≡ Some v
    → slice_get (map f xs) k ≡ Some (f v)
get-map f [] k v h = cc
get-map f (x ∷ xs) zero v h = ap (λ (o : Option _). mapped f o) h
  where
    mapped : {A B : Type 0} → (A → B) → Option A → Option B
    mapped g None = None
    mapped g (Some a) = Some (g a)
get-map f (x ∷ xs) (suc k) v h = get-map f xs k v h

same_has : (x : ℕ) (c d : Concept) → c ≡ d → IsAmong (Has x c ∷ []) (Has x d ∷ [])
same_has x c d e = subst (λ (u : Concept). IsAmong (Has x c ∷ []) (Has x u ∷ [])) e (λ p h. h)

module _ (q : Question) (table : List Shape) (is : IsTable table) where
  pub alternative_put : (b : Branch) → HasShape table b → (n : ℕ) (f : Fact ℕ) → IsAlternative table b n f → (k : ℕ)
      → n ≡ k + 1 → IsPut q table b k f
  alternative_put b' listed n' f' (of_union x c j d parts sh get) k e =
      let same : j ≡ k = omega arith in
      record {
        rule = _;
        is_rule = (rules_by_shape q table is).by_or x c parts listed sh;
        added = more_facts (Has x (tree_of table d) ∷ []);
        is_child =
            get-map (λ p. more_facts (Has x (tree_of table p) ∷ [])) parts k d
            (subst (λ (i : ℕ). slice_get parts i ≡ Some d) same get);
        puts = some_facts (Has x (tree_of table d) ∷ []) (Has x d ∷ []) refl (λ p h. h);
      }
  alternative_put b' listed n' f' (of_filler y c) k e =
      let same : k ≡ 0 = omega arith in
      record {
        rule = _;
        is_rule = (rules_by_shape q table is).by_choose y c listed;
        added = more_facts (Has y (tree_of table c) ∷ []);
        is_child =
            ap (slice_get
            (more_facts (Has y (tree_of table c) ∷ []) ∷ more_facts (Has y (negated_form (tree_of table c)) ∷ []) ∷ []))
            same;
        puts = some_facts (Has y (tree_of table c) ∷ []) (Has y c ∷ []) refl (λ p h. h);
      }
  alternative_put b' listed n' f' (of_complement y c d other) k e =
      let same : k ≡ 1 = omega arith in
      record {
        rule = _;
        is_rule = (rules_by_shape q table is).by_choose y c listed;
        added = more_facts (Has y (negated_form (tree_of table c)) ∷ []);
        is_child =
            ap (slice_get
            (more_facts (Has y (tree_of table c) ∷ []) ∷ more_facts (Has y (negated_form (tree_of table c)) ∷ []) ∷ []))
            same;
        puts =
            some_facts (Has y (negated_form (tree_of table c)) ∷ []) (Has y d ∷ []) refl
            (same_has y (tree_of table d) (negated_form (tree_of table c)) other.negates);
      }
  alternative_put b' listed n' f' (of_joining y z) k e =
      let same : k ≡ 0 = omega arith in
      record {
        rule = _;
        is_rule = refl;
        added = more_facts (Same y z ∷ []);
        is_child = ap (slice_get (more_facts (Same y z ∷ []) ∷ more_facts (Apart y z ∷ []) ∷ [])) same;
        puts = some_facts (Same y z ∷ []) (Same y z ∷ []) refl (λ p h. h);
      }
  alternative_put b' listed n' f' (of_parting y z) k e =
      let same : k ≡ 1 = omega arith in
      record {
        rule = _;
        is_rule = refl;
        added = more_facts (Apart y z ∷ []);
        is_child = ap (slice_get (more_facts (Same y z ∷ []) ∷ more_facts (Apart y z ∷ []) ∷ [])) same;
        puts = some_facts (Apart y z ∷ []) (Apart y z ∷ []) refl (λ p h. h);
      }
