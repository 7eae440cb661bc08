-- What a reading of the concepts keeps.
use Rattle.std.proofs.Common.{◌≡◌, ℕ, ◌+◌, ◌<◌, ◌&&◌, ◌||◌, max, cond, eqb, ltb, Bool, true, List, [], ◌∷◌, length}
use Rattle.std.proofs.Common.{Option, Some, None, refl, ap, ◌∙◌, sym, eq-eqb}
use Rattle.std.specs.List.{list_any}
use Rattle.std.proofs.lemmas.Bool.{eqb-true, ltb-true, and_parts}
use Rattle.shq_base.specs.Concept.{Concept, top}
use Rattle.shq_base.proofs.Bools.{same_truth}
use Rattle.calculus_specs.specs.Same.{is_same}
use Rattle.calculus_specs.specs.Normal.{is_top}
use Rattle.calculus_specs.specs.Shape.{Shape, IsTable}
use Rattle.calculus_specs.specs.Tree.{tree_of, trees_of, tree_over}
use Rattle.calculus_specs.proofs.Same.{same_to_eq, eq_to_same}
use Rattle.calculus_specs.proofs.Unique.{tree_of_shape, numbers_unique}
use Rattle.calculus_specs.specs.declared.facts.Fact.{Fact}
use Rattle.calculus_specs.specs.declared.facts.Fact.TheVariants.{Has, Edge, Apart, Same}
use Rattle.calculus_specs.specs.Joins.{rep, rep_from, rep_after}
use Rattle.calculus_specs.specs.State.{node_count_from, first_origin, gives_concept, is_given, has, has_tree}
use Rattle.calculus_specs.specs.State.{gives_edge, gives_apart}
use Rattle.calculus_specs.specs.Reading.{read_facts, are_listed}
use Rattle.calculus_specs.specs.FactLaws.{KeepsState}

-- ---- nodes, edges and joins

module _ (C D : Type 0) (read : C → D) where
  rep_from-read : (m : ℕ → ℕ) (fs : List (Fact C)) (x : ℕ) → rep_from m (read_facts read fs) x ≡ rep_from m fs x
  rep_from-read m [] x = refl
  rep_from-read m (Has y c ∷ fs) x = rep_from-read (rep_after {C = C} m (Has y c)) fs x
  rep_from-read m (Edge r y z ∷ fs) x = rep_from-read (rep_after {C = C} m (Edge r y z)) fs x
  rep_from-read m (Apart y z ∷ fs) x = rep_from-read (rep_after {C = C} m (Apart y z)) fs x
  rep_from-read m (Same y z ∷ fs) x = rep_from-read (rep_after {C = C} m (Same y z)) fs x

  pub reps-read : (fs : List (Fact C)) → rep (read_facts read fs) ≡ rep fs
  reps-read fs i x = rep_from-read (λ y. y) fs x i

  count-read : (first : ℕ) (fs : List (Fact C)) → node_count_from first (read_facts read fs) ≡ node_count_from first fs
  count-read first [] = refl
  count-read first (Has y c ∷ fs) = count-read first fs
  count-read first (Edge r y z ∷ fs) = ap (max (z + 1)) (count-read first fs)
  count-read first (Apart y z ∷ fs) = count-read first fs
  count-read first (Same y z ∷ fs) = count-read first fs

  origin-read : (fs : List (Fact C)) (x : ℕ) → first_origin (read_facts read fs) x ≡ first_origin fs x
  origin-read [] x = refl
  origin-read (Has y c ∷ fs) x = origin-read fs x
  origin-read (Edge r y z ∷ fs) x = ap (λ (o : Option ℕ). cond (eqb z x) (Some y) o) (origin-read fs x)
  origin-read (Apart y z ∷ fs) x = origin-read fs x
  origin-read (Same y z ∷ fs) x = origin-read fs x

  any_edge-read : (roles : ℕ → Bool) (m : ℕ → ℕ) (from to : ℕ) (fs : List (Fact C))
      → list_any (gives_edge roles m from to) (read_facts read fs) ≡ list_any (gives_edge roles m from to) fs
  any_edge-read roles m from to [] = refl
  any_edge-read roles m from to (Has y c ∷ fs) = any_edge-read roles m from to fs
  any_edge-read roles m from to (Edge r y z ∷ fs) =
      ap (λ (b : Bool). (roles r && eqb (m y) from && eqb (m z) to) || b) (any_edge-read roles m from to fs)
  any_edge-read roles m from to (Apart y z ∷ fs) = any_edge-read roles m from to fs
  any_edge-read roles m from to (Same y z ∷ fs) = any_edge-read roles m from to fs

  any_apart-read : (m : ℕ → ℕ) (a b : ℕ) (fs : List (Fact C))
      → list_any (gives_apart m a b) (read_facts read fs) ≡ list_any (gives_apart m a b) fs
  any_apart-read m a b [] = refl
  any_apart-read m a b (Has y c ∷ fs) = any_apart-read m a b fs
  any_apart-read m a b (Edge r y z ∷ fs) = any_apart-read m a b fs
  any_apart-read m a b (Apart y z ∷ fs) =
      ap (λ (t : Bool). ((eqb (m y) a && eqb (m z) b) || (eqb (m y) b && eqb (m z) a)) || t) (any_apart-read m a b fs)
  any_apart-read m a b (Same y z ∷ fs) = any_apart-read m a b fs

  pub keeps_state : (fs : List (Fact C)) → KeepsState C D read fs
  keeps_state fs = record {
    reps = λ x. rep_from-read (λ y. y) fs x;
    nodes = λ first. count-read first fs;
    parents = λ first x. ap (λ (o : Option ℕ). cond (ltb x first) None o) (origin-read fs x);
    edges =
        λ roles x y. ap (λ (m : ℕ → ℕ). list_any (gives_edge roles m (m x) (m y)) (read_facts read fs)) (reps-read fs)
        ∙ any_edge-read roles (rep fs) (rep fs x) (rep fs y) fs;
    aparts =
        λ x y. ap (λ (m : ℕ → ℕ). list_any (gives_apart m (m x) (m y)) (read_facts read fs)) (reps-read fs)
        ∙ any_apart-read (rep fs) (rep fs x) (rep fs y) fs;
  }

-- ---- concepts

top_is_top : (t : Concept) → is_top t ≡ true → t ≡ top
top_is_top top h = refl
top_is_top _ h = cc

module _ (table : List Shape) (good : IsTable table) where
  tree_of_zero : tree_of table 0 ≡ top
  tree_of_zero =
      tree_of_shape table 0 good.has_top (good.parts_below 0 good.has_top)
      ∙ ap (λ (s : Shape). tree_over (trees_of table) s) good.begins_with_top

  same_number : (c d : ℕ) → c < length table → d < length table → is_same (tree_of table d) (tree_of table c) ≡ eqb d c
  same_number c d lt mt =
      same_truth (is_same (tree_of table d) (tree_of table c)) (eqb d c)
      (λ h. eq-eqb d c (numbers_unique table good d c mt lt (same_to_eq (tree_of table d) (tree_of table c) h)))
      (λ h. eq_to_same (tree_of table d) (tree_of table c) (ap (tree_of table) (eqb-true d c h)))

  is_top_number : (c : ℕ) → c < length table → is_top (tree_of table c) ≡ eqb c 0
  is_top_number c lt =
      same_truth (is_top (tree_of table c)) (eqb c 0)
      (λ h. eq-eqb c 0
      (numbers_unique table good c 0 lt good.has_top (top_is_top (tree_of table c) h ∙ sym tree_of_zero)))
      (λ h. ap is_top (ap (tree_of table) (eqb-true c 0 h) ∙ tree_of_zero))

  given-read : (m : ℕ → ℕ) (at c : ℕ) (fs : List (Fact ℕ)) → c < length table → are_listed (length table) fs ≡ true
      → list_any (gives_concept (λ t. is_same t (tree_of table c)) m at) (read_facts (tree_of table) fs)
      ≡ list_any (gives_concept (λ d. eqb d c) m at) fs
  given-read m at c [] lt h = refl
  given-read m at c (Has y d ∷ fs) lt h =
      let t = and_parts (ltb d (length table)) (are_listed (length table) fs) h in
      ap (λ (b : Bool). (eqb (m y) at && b)
      || list_any (gives_concept (λ t. is_same t (tree_of table c)) m at) (read_facts (tree_of table) fs))
      (same_number c d lt (ltb-true d (length table) t.0))
      ∙ ap (λ (b : Bool). (eqb (m y) at && eqb d c) || b) (given-read m at c fs lt t.1)
  given-read m at c (Edge r y z ∷ fs) lt h = given-read m at c fs lt h
  given-read m at c (Apart y z ∷ fs) lt h = given-read m at c fs lt h
  given-read m at c (Same y z ∷ fs) lt h = given-read m at c fs lt h

  pub has-read : (fs : List (Fact ℕ)) → are_listed (length table) fs ≡ true → (x c : ℕ) → c < length table
      → has_tree (read_facts (tree_of table) fs) x (tree_of table c) ≡ has fs x c
  has-read fs h x c lt =
      ap (λ (b : Bool). b || is_given (λ t. is_same t (tree_of table c)) (read_facts (tree_of table) fs) x)
      (is_top_number c lt)
      ∙ ap (λ (b : Bool). eqb c 0 || b)
      (ap (λ (m : ℕ → ℕ). list_any (gives_concept (λ t. is_same t (tree_of table c)) m (m x))
      (read_facts (tree_of table) fs))
      (reps-read ℕ Concept (tree_of table) fs)
      ∙ given-read (rep fs) (rep fs x) c fs lt h)
