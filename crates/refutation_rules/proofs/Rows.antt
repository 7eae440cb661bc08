-- Rows of axioms that lines use, by the numbers of a table.
use Rattle.std.proofs.Common.{◌≡◌, ℕ, ◌&&◌, cond, ltb, Bool, true, false, List, [], ◌∷◌, map, length, Option, Some}
use Rattle.std.proofs.Common.{None, refl, ap, subst, sym, ◌∙◌}
use Rattle.std.specs.List.{list_all}
use Rattle.std.proofs.lemmas.Bool.{and_parts, ltb-true}
use Rattle.std.proofs.lemmas.List.Folds.{list_all-map}
use Rattle.shq_terms.specs.Concept.{Concept}
use Rattle.calculus_specs.specs.Shape.{Shape, IsTable}
use Rattle.calculus_specs.specs.Tree.{tree_of}
use Rattle.calculus_specs.specs.Rows.{Part, inclusion, range, conjunct_at, are_name_positions, row_concept}
use Rattle.shq_nnf.specs.Numbers.{IsNumber, AreNumbers}
use Rattle.calculus_specs.specs.declared.facts.Fact.TheVariants.{Has}
use Rattle.calculus_specs.specs.State.{has, has_tree, has_edge}
use Rattle.calculus_specs.specs.Reading.{are_listed}
use Rattle.calculus_specs.proofs.Reading.{has-read}
use Rattle.row_cache.specs.Rows.{row_for, IsRow, range_for, IsRange}
use Rattle.row_cache.specs.declared.cached_row.CachedRow.{CachedRow}
use Rattle.row_cache.specs.declared.cached_row.CachedRange.{CachedRange}
use Rattle.branch_facts.specs.NumberedBranch.{NumberedBranch as Branch, has_node}
use Rattle.calculus_specs.specs.Rules.{Known, knows, when, row_children, range_children}
use Rattle.calculus_specs.specs.Rules.{with_facts as known_with}
use Rattle.refutation_rules.specs.Outcomes.{known_of}
use Rattle.refutation_rules.specs.RefutationContext.{RefutationContext, theory, AddsConcept, row_used, range_used}
use Rattle.refutation_rules.proofs.Children.{one_fact}

-- the node is in the concept of a number, where this holds
adds_when : (table : List Shape) (k : Branch) (b : Bool) (y n : ℕ) (c : Concept) → IsNumber table n c
    → AddsConcept table k (when b (Some (known_with (known_of table k) (Has y c ∷ []) ∷ []))) y (when b (Some n))
adds_when table k false y n c is = refl
adds_when table k true y n c is = (
  is.listed,
  ap (λ (d : Concept). Some (known_with (known_of table k) (Has y d ∷ []) ∷ [])) (sym is.stands_for)
      ∙ ap (λ (m : Known). Some (m ∷ [])) (one_fact table k y n),
)

module _ (table : List Shape) (good : IsTable table) (k : Branch) (listed : are_listed (length table) k.facts ≡ true)
    (x : ℕ) where
  abbrev known : Known
  known = known_of table k

  all_had : (ns : List ℕ) → list_all (λ n. ltb n (length table)) ns ≡ true
      → list_all (λ n. has_tree known.facts x (tree_of table n)) ns ≡ list_all (has k.facts x) ns
  all_had [] h = refl
  all_had (n ∷ ns) h =
      let p = and_parts (ltb n (length table)) (list_all (λ m. ltb m (length table)) ns) h in
      λ i. has-read table good k.facts listed x n (ltb-true n (length table) p.0) i && all_had ns p.1 i

  premises_had : (ns positions : List ℕ) (cs : List Concept) → AreNumbers table ns (map (conjunct_at cs) positions)
      → list_all (λ p. has_tree known.facts x (conjunct_at cs p)) positions ≡ list_all (has k.facts x) ns
  premises_had ns positions cs are =
      sym (list_all-map (has_tree known.facts x) (conjunct_at cs) positions)
      ∙ ap (list_all (has_tree known.facts x)) (sym are.stand_for)
      ∙ list_all-map (has_tree known.facts x) (tree_of table) ns
      ∙ all_had ns are.listed

  inclusion_by : (b : Bool) (cs : List Concept) (d : Concept) (positions : List ℕ) (row : Option CachedRow)
      → IsRow table
      (cond b (Some (record { premises = map (conjunct_at cs) positions; concept = row_concept cs d positions })) None)
      row
      → AddsConcept table k
      (when (b && knows known x && list_all (λ p. has_tree known.facts x (conjunct_at cs p)) positions)
      (Some (known_with known (Has x (row_concept cs d positions) ∷ []) ∷ [])))
      x (row_used k x row)
  inclusion_by false cs d positions None is = refl
  inclusion_by false cs d positions (Some r) is = absurd is
  inclusion_by true cs d positions None is = absurd is
  inclusion_by true cs d positions (Some r) is =
      let C = row_concept cs d positions in
      let e : (knows known x && list_all (λ p. has_tree known.facts x (conjunct_at cs p)) positions)
      ≡ (has_node k x && list_all (has k.facts x) r.premises) =
      ap (λ (b : Bool). knows known x && b) (premises_had r.premises positions cs is.0) in
      subst (λ (b : Bool). AddsConcept table k (when b (Some (known_with known (Has x C ∷ []) ∷ []))) x
      (row_used k x (Some r)))
      (sym e)
      (adds_when table k (has_node k x && list_all (has k.facts x) r.premises) x r.concept C is.1)

  pub row_adds : (part : Option Part) (positions : List ℕ) (row : Option CachedRow)
      → IsRow table (row_for part positions) row
      → AddsConcept table k (row_children known x positions part) x (row_used k x row)
  row_adds None positions None is = refl
  row_adds None positions (Some r) is = absurd is
  row_adds (Some (range s d)) positions None is = refl
  row_adds (Some (range s d)) positions (Some r) is = absurd is
  row_adds (Some (inclusion cs d)) positions row is =
      inclusion_by (are_name_positions cs positions) cs d positions row is

pub range_adds : (f : RefutationContext) (k : Branch) (x y : ℕ) (part : Option Part) (row : Option CachedRange)
    → IsRange f.table (range_for part) row
    → AddsConcept f.table k (range_children (theory f) (known_of f.table k) x y part) y (range_used f k x y row)
range_adds f k x y None None is = refl
range_adds f k x y None (Some r) is = absurd is
range_adds f k x y (Some (inclusion cs d)) None is = refl
range_adds f k x y (Some (inclusion cs d)) (Some r) is = absurd is
range_adds f k x y (Some (range s d)) None is = absurd is
range_adds f k x y (Some (range s d)) (Some r) is =
    let known = known_of f.table k in
    let test : ℕ → Bool =
    λ role. knows known x && knows known y && has_edge known.facts (λ q. (theory f).below q role) x y in
    subst (λ (role : ℕ). AddsConcept f.table k (when (test role) (Some (known_with known (Has y d ∷ []) ∷ []))) y
    (range_used f k x y (Some r)))
    is.0
    (adds_when f.table k (test r.role) y r.concept d is.1)
