-- The concept of a number is its own normal form.
use Rattle.std.proofs.Common.{◌≡◌, ℕ, zero, suc, ◌+◌, ◌-◌, ◌<◌, ◌≤◌, ◌||◌, ltb, leb, Bool, true, false, List, [], ◌∷◌}
use Rattle.std.proofs.Common.{◌++◌, map, length, get_or, take, refl, ap, subst, sym, ◌∙◌, arith}
use Rattle.std.specs.List.{list_all, list_any, flat_map}
use Rattle.std.proofs.lemmas.Bool.{ltb-true, leb-true, lt-ltb, and_parts, and_from}
use Rattle.std.proofs.lemmas.List.{map_more}
use Rattle.shq_meaning.specs.Concept.{Concept, intersection, union, some_of, all_of, at_least, at_most, parts_of}
use Rattle.calculus_specs.specs.Normal.{and_of, or_of, normal_form, negated_form, least_form}
use Rattle.calculus_specs.specs.Shape.{Shape, shape_of, has_parts_below, is_conjunct, is_disjunct, is_normal, IsTable}
use Rattle.calculus_specs.specs.Shape.Shape.{top as top_shape, bottom as bottom_shape, name as name_shape, not_name}
use Rattle.calculus_specs.specs.Shape.Shape.{intersection as intersection_shape, union as union_shape}
use Rattle.calculus_specs.specs.Shape.Shape.{some_of as some_shape, all_of as all_shape, at_least as least_shape}
use Rattle.calculus_specs.specs.Shape.Shape.{at_most as most_shape}
use Rattle.calculus_specs.specs.Tree.{tree_over, trees_of, tree_of}
use Rattle.calculus_specs.specs.Rows.{conjuncts_in}
use Rattle.shq_nnf.specs.Opened.{is_top_shape, is_bottom_shape, conjunct_numbers_of, disjunct_numbers_of}
use Rattle.shq_nnf.specs.Opened.{open_intersection, open_union}
use Rattle.shq_nnf.specs.Bounds.{joined_form}
use Rattle.shq_nnf.specs.Numbers.{Extends, IsNumber, AreNumbers}
use Rattle.shq_nnf.proofs.Numbers.{shape_tree, tree_stays, numbers_stay, numbers_push}
use Rattle.shq_nnf.proofs.Bounded.{normal_list, negated_list}
use Rattle.calculus_specs.proofs.Unique.{part_list-parts_of}
use Rattle.shq_nnf.proofs.Opened.{conjunct_listed_of, conjunct_trees, disjunct_trees, intersection_without}
use Rattle.shq_nnf.proofs.Opened.{union_without, intersection_of_many, union_of_many}

conjunct_alone : (c : ℕ) (s : Shape) → is_conjunct s ≡ true → conjunct_numbers_of c s ≡ c ∷ []
conjunct_alone c top_shape h = cc
conjunct_alone c (intersection_shape cs) h = cc
conjunct_alone c _ h = refl

disjunct_alone : (c : ℕ) (s : Shape) → is_disjunct s ≡ true → disjunct_numbers_of c s ≡ c ∷ []
disjunct_alone c bottom_shape h = cc
disjunct_alone c (union_shape cs) h = cc
disjunct_alone c _ h = refl

conjunct_not_bottom : (s : Shape) → is_conjunct s ≡ true → is_bottom_shape s ≡ false
conjunct_not_bottom bottom_shape h = sym h
conjunct_not_bottom _ h = refl

disjunct_not_top : (s : Shape) → is_disjunct s ≡ true → is_top_shape s ≡ false
disjunct_not_top top_shape h = sym h
disjunct_not_top _ h = refl

module _ (t : List Shape) (good : IsTable t) where
  all_alone : (test : Shape → Bool) (numbers_of : ℕ → Shape → List ℕ)
      → ((c : ℕ) (s : Shape) → test s ≡ true → numbers_of c s ≡ c ∷ [])
      → (cs : List ℕ) → list_all (λ c. test (shape_of t c)) cs ≡ true
      → flat_map (λ c. numbers_of c (shape_of t c)) cs ≡ cs
  all_alone test numbers_of step [] h = refl
  all_alone test numbers_of step (c ∷ cs) h =
      let p = and_parts (test (shape_of t c)) (list_all (λ d. test (shape_of t d)) cs) h in
      let head = step c (shape_of t c) p.0 in
      let tail = all_alone test numbers_of step cs p.1 in
      λ i. head i ++ tail i

  none_such : (test p : Shape → Bool) → ((s : Shape) → test s ≡ true → p s ≡ false) → (cs : List ℕ)
      → list_all (λ c. test (shape_of t c)) cs ≡ true → list_any (λ c. p (shape_of t c)) cs ≡ false
  none_such test p step [] h = refl
  none_such test p step (c ∷ cs) h =
      let a = and_parts (test (shape_of t c)) (list_all (λ d. test (shape_of t d)) cs) h in
      let head = step (shape_of t c) a.0 in
      let tail = none_such test p step cs a.1 in
      λ i. head i || tail i

  and_stays : (cs : List ℕ) → list_all (λ c. ltb c (length t)) cs ≡ true → 2 ≤ length cs
      → list_all (λ c. is_conjunct (shape_of t c)) cs ≡ true
      → and_of (map (tree_of t) cs) ≡ intersection (parts_of (map (tree_of t) cs))
  and_stays cs listed two conjuncts =
      ap open_intersection
      (sym (conjunct_trees t good cs listed)
      ∙ ap (map (tree_of t)) (all_alone is_conjunct conjunct_numbers_of conjunct_alone cs conjuncts))
      ∙ sym
      (intersection_without t good cs listed (none_such is_conjunct is_bottom_shape conjunct_not_bottom cs conjuncts))
      ∙ sym (intersection_of_many t good cs two)

  or_stays : (cs : List ℕ) → list_all (λ c. ltb c (length t)) cs ≡ true → 2 ≤ length cs
      → list_all (λ c. is_disjunct (shape_of t c)) cs ≡ true
      → or_of (map (tree_of t) cs) ≡ union (parts_of (map (tree_of t) cs))
  or_stays cs listed two disjuncts =
      ap open_union
      (sym (disjunct_trees t good cs listed)
      ∙ ap (map (tree_of t)) (all_alone is_disjunct disjunct_numbers_of disjunct_alone cs disjuncts))
      ∙ sym (union_without t good cs listed (none_such is_disjunct is_top_shape disjunct_not_top cs disjuncts))
      ∙ sym (union_of_many t good cs two)

  listed_below : (n : ℕ) → n < length t → (cs : List ℕ) → list_all (λ c. ltb c n) cs ≡ true
      → list_all (λ c. ltb c (length t)) cs ≡ true
  listed_below n lt [] h = refl
  listed_below n lt (c ∷ cs) h =
      let p = and_parts (ltb c n) (list_all (λ d. ltb d n) cs) h in
      let less = ltb-true c n p.0 in
      and_from (ltb c (length t)) (list_all (λ d. ltb d (length t)) cs) (lt-ltb c (length t) (omega arith))
      (listed_below n lt cs p.1)

  map_stays : (n : ℕ) → ((c : ℕ) → c < n → normal_form (tree_of t c) ≡ tree_of t c) → (cs : List ℕ)
      → list_all (λ c. ltb c n) cs ≡ true → map normal_form (map (tree_of t) cs) ≡ map (tree_of t) cs
  map_stays n step [] h = refl
  map_stays n step (c ∷ cs) h =
      let p = and_parts (ltb c n) (list_all (λ d. ltb d n) cs) h in
      let head = step c (ltb-true c n p.0) in
      let tail = map_stays n step cs p.1 in
      λ i. head i ∷ tail i

  shape_stays : (c : ℕ) (s : Shape) → c < length t → ((d : ℕ) → d < c → normal_form (tree_of t d) ≡ tree_of t d)
      → has_parts_below c s ≡ true → is_normal t s ≡ true
      → normal_form (tree_over (trees_of t) s) ≡ tree_over (trees_of t) s
  shape_stays c top_shape lt step below normal = refl
  shape_stays c bottom_shape lt step below normal = refl
  shape_stays c (name_shape a) lt step below normal = refl
  shape_stays c (not_name a) lt step below normal = refl
  shape_stays c (intersection_shape cs) lt step below normal =
      let n = and_parts (leb 2 (length cs)) (list_all (λ d. is_conjunct (shape_of t d)) cs) normal in
      ap and_of (normal_list (map (tree_of t) cs) ∙ map_stays c step cs below)
      ∙ and_stays cs (listed_below c lt cs below) (leb-true 2 (length cs) n.0) n.1
  shape_stays c (union_shape cs) lt step below normal =
      let n = and_parts (leb 2 (length cs)) (list_all (λ d. is_disjunct (shape_of t d)) cs) normal in
      ap or_of (normal_list (map (tree_of t) cs) ∙ map_stays c step cs below)
      ∙ or_stays cs (listed_below c lt cs below) (leb-true 2 (length cs) n.0) n.1
  shape_stays c (some_shape r d) lt step below normal = ap (some_of r) (step d (ltb-true d c below))
  shape_stays c (all_shape r d) lt step below normal = ap (all_of r) (step d (ltb-true d c below))
  shape_stays c (least_shape zero r d) lt step below normal = cc
  shape_stays c (least_shape (suc zero) r d) lt step below normal = cc
  shape_stays c (least_shape (suc (suc n)) r d) lt step below normal =
      ap (at_least (suc (suc n)) r) (step d (ltb-true d c below))
  shape_stays c (most_shape zero r d) lt step below normal = cc
  shape_stays c (most_shape (suc n) r d) lt step below normal = ap (at_most (suc n) r) (step d (ltb-true d c below))

  stays_below : (n c : ℕ) → c < n → c < length t → normal_form (tree_of t c) ≡ tree_of t c
  stays_below zero c less lt = absurd (omega arith)
  stays_below (suc n) c less lt =
      let e = shape_tree t good c lt in
      ap normal_form e
      ∙ shape_stays c (shape_of t c) lt (λ d under. stays_below n d (omega arith) (omega arith)) (good.parts_below c lt)
      (good.are_normal c lt)
      ∙ sym e

  pub normal_stays : (c : ℕ) → c < length t → normal_form (tree_of t c) ≡ tree_of t c
  normal_stays c lt = stays_below (c + 1) c (omega arith) lt

map_map : (f : Concept → Concept) (g : ℕ → Concept) (cs : List ℕ) → map f (map g cs) ≡ map (λ c. f (g c)) cs
map_map f g [] = refl
map_map f g (c ∷ cs) = ap (λ (l : List Concept). f (g c) ∷ l) (map_map f g cs)

-- ---- complements of shapes

module _ (t : List Shape) (good : IsTable t) (c : ℕ) (lt : c < length t) where
  pub complement_is : (s : Shape) → s ≡ shape_of t c
      → negated_form (tree_over (trees_of t) s) ≡ negated_form (tree_of t c)
  complement_is s e = ap negated_form (ap (tree_over (trees_of t)) e ∙ sym (shape_tree t good c lt))

  pub parts_are_below : (s : Shape) → s ≡ shape_of t c → has_parts_below c s ≡ true
  parts_are_below s e = ap (has_parts_below c) e ∙ good.parts_below c lt

  pub shape_is_normal : (s : Shape) → s ≡ shape_of t c → is_normal t s ≡ true
  shape_is_normal s e = ap (is_normal t) e ∙ good.are_normal c lt

  pub filler_below : (s : Shape) (d : ℕ) → s ≡ shape_of t c → has_parts_below c s ≡ ltb d c → d < c
  filler_below s d e h = ltb-true d c (sym h ∙ parts_are_below s e)

  pub intersection_complement : (cs : List ℕ) → intersection_shape cs ≡ shape_of t c
      → joined_form true (map (λ d. negated_form (tree_of t d)) cs) ≡ negated_form (tree_of t c)
  intersection_complement cs e =
      ap or_of (sym (negated_list (map (tree_of t) cs) ∙ map_map negated_form (tree_of t) cs))
      ∙ complement_is (intersection_shape cs) e

  pub union_complement : (cs : List ℕ) → union_shape cs ≡ shape_of t c
      → joined_form false (map (λ d. negated_form (tree_of t d)) cs) ≡ negated_form (tree_of t c)
  union_complement cs e =
      ap and_of (sym (negated_list (map (tree_of t) cs) ∙ map_map negated_form (tree_of t) cs))
      ∙ complement_is (union_shape cs) e

  pub least_complement : (n r d : ℕ) → least_shape n r d ≡ shape_of t c
      → (2 ≤ n) × (n ≤ 101) × (at_most (n - 1) r (tree_of t d) ≡ negated_form (tree_of t c))
  least_complement n r d e = by n e
    where
      by : (n : ℕ) → least_shape n r d ≡ shape_of t c
          → (2 ≤ n) × (n ≤ 101) × (at_most (n - 1) r (tree_of t d) ≡ negated_form (tree_of t c))
      by zero e = let h : false ≡ true = shape_is_normal (least_shape zero r d) e in absurd (cc h)
      by (suc zero) e = let h : false ≡ true = shape_is_normal (least_shape (suc zero) r d) e in absurd (cc h)
      by (suc (suc n)) e =
          let w =
          and_parts (leb 2 (suc (suc n))) (leb (suc (suc n)) 101) (shape_is_normal (least_shape (suc (suc n)) r d) e) in
          let less : d < c = filler_below (least_shape (suc (suc n)) r d) d e refl in
          let one : suc (suc n) - 1 ≡ suc n = omega arith in (
            leb-true 2 (suc (suc n)) w.0,
            leb-true (suc (suc n)) 101 w.1,
            (λ i. at_most (one i) r (sym (normal_stays t good d (omega arith)) i))
                ∙ complement_is (least_shape (suc (suc n)) r d) e,
          )

  pub most_complement : (n r d : ℕ) → most_shape n r d ≡ shape_of t c
      → (1 ≤ n) × (n ≤ 100) × (least_form (n + 1) r (tree_of t d) ≡ negated_form (tree_of t c))
  most_complement n r d e = by n e
    where
      by : (n : ℕ) → most_shape n r d ≡ shape_of t c
          → (1 ≤ n) × (n ≤ 100) × (least_form (n + 1) r (tree_of t d) ≡ negated_form (tree_of t c))
      by zero e = let h : false ≡ true = shape_is_normal (most_shape zero r d) e in absurd (cc h)
      by (suc n) e =
          let w = and_parts (leb 1 (suc n)) (leb (suc n) 100) (shape_is_normal (most_shape (suc n) r d) e) in
          let less : d < c = filler_below (most_shape (suc n) r d) d e refl in
          let one : suc n + 1 ≡ suc (suc n) = omega arith in (
            leb-true 1 (suc n) w.0,
            leb-true (suc n) 100 w.1,
            (λ i. least_form (one i) r (sym (normal_stays t good d (omega arith)) i))
                ∙ complement_is (most_shape (suc n) r d) e,
          )

-- ---- one complement more

below_at : (n : ℕ) (cs : List ℕ) (i : ℕ) → i < length cs → list_all (λ c. ltb c n) cs ≡ true → get_or cs i 0 < n
below_at n [] i lt h = absurd (omega arith)
below_at n (c ∷ cs) zero lt h = ltb-true c n (and_parts (ltb c n) (list_all (λ d. ltb d n) cs) h).0
below_at n (c ∷ cs) (suc i) lt h = below_at n cs i (omega arith) (and_parts (ltb c n) (list_all (λ d. ltb d n) cs) h).1

abbrev complement_in : List Shape → ℕ → Concept
complement_in t c = negated_form (tree_of t c)

pub complements_push : (first before after : List Shape) (above : ℕ) (parts : List ℕ) (i : ℕ) (ns : List ℕ) (n : ℕ)
    → above ≤ length first → list_all (λ c. ltb c above) parts ≡ true → i < length parts
    → Extends first before → Extends before after → AreNumbers before ns (map (complement_in first) (take i parts))
    → IsNumber after n (complement_in before (get_or parts i 0))
    → AreNumbers after (ns ++ n ∷ []) (map (complement_in first) (take (i + 1) parts))
complements_push first before after above parts i ns n le below lt e f are is =
    let part = get_or parts i 0 in
    let less : part < above = below_at above parts i lt below in
    let same : complement_in before part ≡ complement_in first part =
    ap negated_form (tree_stays first before e part (omega arith)) in
    let one : IsNumber after n (complement_in first part) =
    record { listed = is.listed; stands_for = is.stands_for ∙ same } in
    let cs = map (complement_in first) (take i parts) in
    subst (λ (l : List Concept). AreNumbers after (ns ++ n ∷ []) l) (sym (map_more (complement_in first) parts i 0 lt))
    (numbers_push after ns cs n (complement_in first part) (numbers_stay before after ns cs f are) one)

-- ---- the conjuncts of a number

pub conjuncts_of_number : (t : List Shape) (good : IsTable t) (c : ℕ) → c < length t
    → AreNumbers t (conjunct_numbers_of c (shape_of t c)) (conjuncts_in (tree_of t c))
conjuncts_of_number t good c lt = record {
  listed = conjunct_listed_of t good c (shape_of t c) lt (good.parts_below c lt);
  stand_for = by (shape_of t c) (shape_tree t good c lt);
}
  where
    by : (s : Shape) → tree_of t c ≡ tree_over (trees_of t) s
        → map (tree_of t) (conjunct_numbers_of c s) ≡ conjuncts_in (tree_of t c)
    by top_shape e = sym (ap conjuncts_in e)
    by (intersection_shape cs) e = sym (ap conjuncts_in e ∙ part_list-parts_of (map (tree_of t) cs))
    by bottom_shape e = let P : Concept → Type 0 = λ k. (k ∷ []) ≡ conjuncts_in k in subst P (sym e) refl
    by (name_shape a) e = let P : Concept → Type 0 = λ k. (k ∷ []) ≡ conjuncts_in k in subst P (sym e) refl
    by (not_name a) e = let P : Concept → Type 0 = λ k. (k ∷ []) ≡ conjuncts_in k in subst P (sym e) refl
    by (union_shape cs) e = let P : Concept → Type 0 = λ k. (k ∷ []) ≡ conjuncts_in k in subst P (sym e) refl
    by (some_shape r d) e = let P : Concept → Type 0 = λ k. (k ∷ []) ≡ conjuncts_in k in subst P (sym e) refl
    by (all_shape r d) e = let P : Concept → Type 0 = λ k. (k ∷ []) ≡ conjuncts_in k in subst P (sym e) refl
    by (least_shape n r d) e = let P : Concept → Type 0 = λ k. (k ∷ []) ≡ conjuncts_in k in subst P (sym e) refl
    by (most_shape n r d) e = let P : Concept → Type 0 = λ k. (k ∷ []) ≡ conjuncts_in k in subst P (sym e) refl
