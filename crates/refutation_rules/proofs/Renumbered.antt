-- A concept of a refutation with the numbers of a table for its parts is a shape that the table may have, with its
-- tree.
use Rattle.std.proofs.Common.{◌≡◌, ℕ, zero, suc, ◌+◌, ◌<◌, ◌≤◌, ltb, leb, Bool, true, false, List, [], ◌∷◌, ◌++◌, map}
use Rattle.std.proofs.Common.{length, take, get_or, refl, ap, subst, sym, ◌∙◌, inl, inr, arith, length-append}
use Rattle.std.specs.Prelude.{slice_index}
use Rattle.std.specs.List.{list_all, All}
use Rattle.std.proofs.lemmas.List.Elements.{All-from_get_or}
use Rattle.std.proofs.lemmas.Bool.{ltb-true, lt-ltb, and_parts, and_from, cases_lt}
use Rattle.std.proofs.lemmas.List.{get_or_append_left, get_or_push, get_or-take, length-take-le, length-map}
use Rattle.shq_terms.specs.Concept.{Concept, top, bottom, intersection, union, some_of, all_of, at_least, at_most}
use Rattle.shq_terms.specs.Concept.{parts_of}
use Rattle.calculus_specs.specs.Shape.{Shape, shape_of, has_parts_below, is_conjunct, is_disjunct, is_normal, IsTable}
use Rattle.calculus_specs.specs.Shape.Shape.{top as top_shape, bottom as bottom_shape, name as name_shape, not_name}
use Rattle.calculus_specs.specs.Shape.Shape.{intersection as intersection_shape, union as union_shape}
use Rattle.calculus_specs.specs.Shape.Shape.{some_of as some_shape, all_of as all_shape, at_least as least_shape}
use Rattle.calculus_specs.specs.Shape.Shape.{at_most as most_shape}
use Rattle.calculus_specs.specs.Tree.{tree_over, trees_of, tree_of}
use Rattle.calculus_specs.proofs.Unique.{tree_of_shape}
use Rattle.shq_nnf.specs.Numbers.{Extends, IsNumber}
use Rattle.shq_nnf.proofs.Grown.{normal_agree}
use Rattle.shq_nnf.proofs.Numbers.{shape_tree, top_number, number_stays}
use Rattle.axiom_sets.specs.Sets.{Limited, IsWithin, member_list}
use Rattle.axiom_sets.proofs.Listed.{member_list-at}
use Rattle.refutation_tree.specs.Shapes.{shape_at, is_concept, part_numbers, AreShapes}
use Rattle.refutation_rules.specs.Numbers.{AreFirst, renumbered}

-- ---- the kind of a shape is that of its tree

abbrev conjunct_tree : Concept → Bool
conjunct_tree top = false
conjunct_tree bottom = false
conjunct_tree (intersection cs) = false
conjunct_tree _ = true

abbrev disjunct_tree : Concept → Bool
disjunct_tree top = false
disjunct_tree bottom = false
disjunct_tree (union cs) = false
disjunct_tree _ = true

conjunct_kind : (trees : List Concept) (s : Shape) → is_conjunct s ≡ conjunct_tree (tree_over trees s)
conjunct_kind trees top_shape = refl
conjunct_kind trees bottom_shape = refl
conjunct_kind trees (name_shape a) = refl
conjunct_kind trees (not_name a) = refl
conjunct_kind trees (intersection_shape cs) = refl
conjunct_kind trees (union_shape cs) = refl
conjunct_kind trees (some_shape r c) = refl
conjunct_kind trees (all_shape r c) = refl
conjunct_kind trees (least_shape n r c) = refl
conjunct_kind trees (most_shape n r c) = refl

disjunct_kind : (trees : List Concept) (s : Shape) → is_disjunct s ≡ disjunct_tree (tree_over trees s)
disjunct_kind trees top_shape = refl
disjunct_kind trees bottom_shape = refl
disjunct_kind trees (name_shape a) = refl
disjunct_kind trees (not_name a) = refl
disjunct_kind trees (intersection_shape cs) = refl
disjunct_kind trees (union_shape cs) = refl
disjunct_kind trees (some_shape r c) = refl
disjunct_kind trees (all_shape r c) = refl
disjunct_kind trees (least_shape n r c) = refl
disjunct_kind trees (most_shape n r c) = refl

-- ---- parts of the shapes of a refutation

list_below : (ts : List Shape) (n : ℕ) → length ts + 1 ≡ n → (cs : List ℕ) → list_all (is_concept ts) cs ≡ true
    → list_all (λ c. ltb c n) cs ≡ true
list_below ts n e [] h = refl
list_below ts n e (c ∷ cs) h =
    let p = and_parts (is_concept ts c) (list_all (is_concept ts) cs) h in
    let q = and_parts (ltb 0 c) (ltb c (length ts + 1)) p.0 in
    let less = ltb-true c (length ts + 1) q.1 in
    and_from (ltb c n) (list_all (λ d. ltb d n) cs) (lt-ltb c n (omega arith)) (list_below ts n e cs p.1)

first_below : (n c : ℕ) → list_all (λ d. ltb d n) (c ∷ []) ≡ true → ltb c n ≡ true
first_below n c h = (and_parts (ltb c n) true h).0

parts_below_from : (n : ℕ) (s : Shape) → list_all (λ c. ltb c n) (part_numbers s) ≡ true → has_parts_below n s ≡ true
parts_below_from n top_shape h = refl
parts_below_from n bottom_shape h = refl
parts_below_from n (name_shape a) h = refl
parts_below_from n (not_name a) h = refl
parts_below_from n (intersection_shape cs) h = h
parts_below_from n (union_shape cs) h = h
parts_below_from n (some_shape r c) h = first_below n c h
parts_below_from n (all_shape r c) h = first_below n c h
parts_below_from n (least_shape m r c) h = first_below n c h
parts_below_from n (most_shape m r c) h = first_below n c h

module _ (shapes : List Shape) (are : AreShapes shapes) where
  abbrev all_shapes : List Shape
  all_shapes = top_shape ∷ shapes

  -- each shape has its parts below itself
  parts_at : (c : ℕ) → c ≤ length shapes → has_parts_below c (shape_of all_shapes c) ≡ true
  parts_at zero le = refl
  parts_at (suc n) le =
      let front = take n shapes in
      let s = shape_of all_shapes (suc n) in
      let long : length front ≡ n = length-take-le n shapes (omega arith) in
      let p =
      and_parts (list_all (is_concept front) (part_numbers s)) (is_normal (top_shape ∷ front) s)
      (are.fit n (omega arith)) in
      parts_below_from (suc n) s (list_below front (suc n) (omega (arith, long)) (part_numbers s) p.0)

  front_same : (n c : ℕ) → n ≤ length shapes → c < suc n
      → shape_of (top_shape ∷ take n shapes) c ≡ shape_of all_shapes c
  front_same n zero le lt = refl
  front_same n (suc c) le lt = get_or-take n shapes c top_shape (omega arith)

  normal_at : (c : ℕ) → c ≤ length shapes → is_normal all_shapes (shape_of all_shapes c) ≡ true
  normal_at zero le = refl
  normal_at (suc n) le =
      let front = take n shapes in
      let s = shape_of all_shapes (suc n) in
      let p =
      and_parts (list_all (is_concept front) (part_numbers s)) (is_normal (top_shape ∷ front) s)
      (are.fit n (omega arith)) in
      normal_agree (top_shape ∷ front) all_shapes (suc n) s (λ c lt. front_same n c (omega arith) lt)
      (parts_at (suc n) le) p.1

  tree_at : (c : ℕ) → c ≤ length shapes → tree_of all_shapes c ≡ tree_over (trees_of all_shapes) (shape_of all_shapes c)
  tree_at c le = tree_of_shape all_shapes c (omega arith) (parts_at c le)

  -- ---- other numbers for the parts

  module _ (table : List Shape) (good : IsTable table) (numbers : List ℕ) (c : ℕ)
      (first : AreFirst shapes table numbers c) (le : c ≤ length shapes) where
    number_is : (p : ℕ) → p < c → IsNumber table (slice_index numbers p) (tree_of all_shapes p)
    number_is p lt = first.stand_for p (omega (arith, first.as_many))

    -- the shape of a number is of the concept's kind
    same_tree : (p : ℕ) → p < c
        → tree_over (trees_of table) (shape_of table (slice_index numbers p))
        ≡ tree_over (trees_of all_shapes) (shape_of all_shapes p)
    same_tree p lt =
        let is = number_is p lt in
        sym (shape_tree table good (slice_index numbers p) is.listed) ∙ is.stands_for ∙ tree_at p (omega arith)

    conjuncts_stay : (cs : List ℕ) → list_all (λ p. ltb p c) cs ≡ true
        → list_all (λ p. is_conjunct (shape_of all_shapes p)) cs ≡ true
        → list_all (λ d. is_conjunct (shape_of table d)) (map (slice_index numbers) cs) ≡ true
    conjuncts_stay [] below h = refl
    conjuncts_stay (p ∷ ps) below h =
        let b = and_parts (ltb p c) (list_all (λ q. ltb q c) ps) below in
        let k =
        and_parts (is_conjunct (shape_of all_shapes p)) (list_all (λ q. is_conjunct (shape_of all_shapes q)) ps) h in
        and_from (is_conjunct (shape_of table (slice_index numbers p)))
        (list_all (λ d. is_conjunct (shape_of table d)) (map (slice_index numbers) ps))
        (conjunct_kind (trees_of table) (shape_of table (slice_index numbers p))
        ∙ ap conjunct_tree (same_tree p (ltb-true p c b.0))
        ∙ sym (conjunct_kind (trees_of all_shapes) (shape_of all_shapes p))
        ∙ k.0)
        (conjuncts_stay ps b.1 k.1)

    disjuncts_stay : (cs : List ℕ) → list_all (λ p. ltb p c) cs ≡ true
        → list_all (λ p. is_disjunct (shape_of all_shapes p)) cs ≡ true
        → list_all (λ d. is_disjunct (shape_of table d)) (map (slice_index numbers) cs) ≡ true
    disjuncts_stay [] below h = refl
    disjuncts_stay (p ∷ ps) below h =
        let b = and_parts (ltb p c) (list_all (λ q. ltb q c) ps) below in
        let k =
        and_parts (is_disjunct (shape_of all_shapes p)) (list_all (λ q. is_disjunct (shape_of all_shapes q)) ps) h in
        and_from (is_disjunct (shape_of table (slice_index numbers p)))
        (list_all (λ d. is_disjunct (shape_of table d)) (map (slice_index numbers) ps))
        (disjunct_kind (trees_of table) (shape_of table (slice_index numbers p))
        ∙ ap disjunct_tree (same_tree p (ltb-true p c b.0))
        ∙ sym (disjunct_kind (trees_of all_shapes) (shape_of all_shapes p))
        ∙ k.0)
        (disjuncts_stay ps b.1 k.1)

    listed_stay : (cs : List ℕ) → list_all (λ p. ltb p c) cs ≡ true
        → list_all (λ d. ltb d (length table)) (map (slice_index numbers) cs) ≡ true
    listed_stay [] below = refl
    listed_stay (p ∷ ps) below =
        let b = and_parts (ltb p c) (list_all (λ q. ltb q c) ps) below in
        and_from (ltb (slice_index numbers p) (length table))
        (list_all (λ d. ltb d (length table)) (map (slice_index numbers) ps))
        (lt-ltb (slice_index numbers p) (length table) (number_is p (ltb-true p c b.0)).listed) (listed_stay ps b.1)

    one_listed : (p : ℕ) → ltb p c ≡ true → ltb (slice_index numbers p) (length table) ≡ true
    one_listed p h = lt-ltb (slice_index numbers p) (length table) (number_is p (ltb-true p c h)).listed

    trees_stay : (cs : List ℕ) → list_all (λ p. ltb p c) cs ≡ true
        → map (tree_of table) (map (slice_index numbers) cs) ≡ map (tree_of all_shapes) cs
    trees_stay [] below = refl
    trees_stay (p ∷ ps) below =
        let b = and_parts (ltb p c) (list_all (λ q. ltb q c) ps) below in
        let head = (number_is p (ltb-true p c b.0)).stands_for in
        let tail = trees_stay ps b.1 in
        λ i. head i ∷ tail i

    one_tree : (p : ℕ) → ltb p c ≡ true → tree_of table (slice_index numbers p) ≡ tree_of all_shapes p
    one_tree p h = (number_is p (ltb-true p c h)).stands_for

    parts_of_shape : (s : Shape) → has_parts_below c s ≡ true
        → has_parts_below (length table) (renumbered numbers s) ≡ true
    parts_of_shape top_shape h = refl
    parts_of_shape bottom_shape h = refl
    parts_of_shape (name_shape a) h = refl
    parts_of_shape (not_name a) h = refl
    parts_of_shape (intersection_shape cs) h = listed_stay cs h
    parts_of_shape (union_shape cs) h = listed_stay cs h
    parts_of_shape (some_shape r p) h = one_listed p h
    parts_of_shape (all_shape r p) h = one_listed p h
    parts_of_shape (least_shape n r p) h = one_listed p h
    parts_of_shape (most_shape n r p) h = one_listed p h

    normal_shape : (s : Shape) → has_parts_below c s ≡ true → is_normal all_shapes s ≡ true
        → is_normal table (renumbered numbers s) ≡ true
    normal_shape top_shape below h = refl
    normal_shape bottom_shape below h = refl
    normal_shape (name_shape a) below h = refl
    normal_shape (not_name a) below h = refl
    normal_shape (intersection_shape cs) below h =
        let p = and_parts (leb 2 (length cs)) (list_all (λ d. is_conjunct (shape_of all_shapes d)) cs) h in
        and_from (leb 2 (length (map (slice_index numbers) cs)))
        (list_all (λ d. is_conjunct (shape_of table d)) (map (slice_index numbers) cs))
        (ap (leb 2) (length-map cs (slice_index numbers)) ∙ p.0) (conjuncts_stay cs below p.1)
    normal_shape (union_shape cs) below h =
        let p = and_parts (leb 2 (length cs)) (list_all (λ d. is_disjunct (shape_of all_shapes d)) cs) h in
        and_from (leb 2 (length (map (slice_index numbers) cs)))
        (list_all (λ d. is_disjunct (shape_of table d)) (map (slice_index numbers) cs))
        (ap (leb 2) (length-map cs (slice_index numbers)) ∙ p.0) (disjuncts_stay cs below p.1)
    normal_shape (some_shape r p) below h = refl
    normal_shape (all_shape r p) below h = refl
    normal_shape (least_shape n r p) below h = h
    normal_shape (most_shape n r p) below h = h

    tree_of_renumbered : (s : Shape) → has_parts_below c s ≡ true
        → tree_over (trees_of table) (renumbered numbers s) ≡ tree_over (trees_of all_shapes) s
    tree_of_renumbered top_shape h = refl
    tree_of_renumbered bottom_shape h = refl
    tree_of_renumbered (name_shape a) h = refl
    tree_of_renumbered (not_name a) h = refl
    tree_of_renumbered (intersection_shape cs) h =
        ap (λ (l : List Concept). intersection (parts_of l)) (trees_stay cs h)
    tree_of_renumbered (union_shape cs) h = ap (λ (l : List Concept). union (parts_of l)) (trees_stay cs h)
    tree_of_renumbered (some_shape r p) h = ap (some_of r) (one_tree p h)
    tree_of_renumbered (all_shape r p) h = ap (all_of r) (one_tree p h)
    tree_of_renumbered (least_shape n r p) h = ap (at_least n r) (one_tree p h)
    tree_of_renumbered (most_shape n r p) h = ap (at_most n r) (one_tree p h)

    pub next_parts : (s : Shape) → s ≡ shape_at shapes c → has_parts_below (length table) (renumbered numbers s) ≡ true
    next_parts s e = parts_of_shape s (ap (has_parts_below c) e ∙ parts_at c le)

    pub next_normal : (s : Shape) → s ≡ shape_at shapes c → is_normal table (renumbered numbers s) ≡ true
    next_normal s e =
        normal_shape s (ap (has_parts_below c) e ∙ parts_at c le) (ap (is_normal all_shapes) e ∙ normal_at c le)

    pub next_tree : (s : Shape) → s ≡ shape_at shapes c
        → tree_over (trees_of table) (renumbered numbers s) ≡ tree_of all_shapes c
    next_tree s e =
        tree_of_renumbered s (ap (has_parts_below c) e ∙ parts_at c le) ∙ ap (tree_over (trees_of all_shapes)) e
        ∙ sym (tree_at c le)

-- ---- one concept more

pub first_one : (shapes table : List Shape) → IsTable table → (numbers : List ℕ) → numbers ≡ 0 ∷ []
    → AreFirst shapes table numbers 1
first_one shapes table good numbers e = record {
  as_many = ap length e;
  stand_for = λ k lt.
      let long = ap length e in
      let zeroth : k ≡ 0 = omega (arith, long) in
      let first : slice_index numbers k ≡ 0 =
      ap (slice_index numbers) zeroth ∙ ap (λ (l : List ℕ). slice_index l 0) e in
      let is = top_number table good in
      record {
        listed = omega (arith, is.listed, first);
        stands_for =
            ap (tree_of table) first ∙ is.stands_for ∙ sym (tree_of_shape (top_shape ∷ shapes) 0 (omega arith) refl)
            ∙ ap (tree_of (top_shape ∷ shapes)) (sym zeroth);
      };
}

pub first_stays : (shapes a b : List Shape) (numbers : List ℕ) (c : ℕ) → AreFirst shapes a numbers c → Extends a b
    → AreFirst shapes b numbers c
first_stays shapes a b numbers c first e = record {
  as_many = first.as_many;
  stand_for =
      λ k lt. number_stays a b (slice_index numbers k) (tree_of (top_shape ∷ shapes) k) e (first.stand_for k lt);
}

pub first_more : (shapes a b : List Shape) (numbers : List ℕ) (c n : ℕ) → AreFirst shapes a numbers c → Extends a b
    → IsNumber b n (tree_of (top_shape ∷ shapes) c) → AreFirst shapes b (numbers ++ n ∷ []) (c + 1)
first_more shapes a b numbers c n first e is =
    let long : length (numbers ++ n ∷ []) ≡ length numbers + 1 = length-append numbers (n ∷ []) in
    record {
      as_many = omega (arith, long, first.as_many);
      stand_for = λ k lt. elim (cases_lt k (length numbers)) [
        | inl less ↦
            subst (λ (m : ℕ). IsNumber b m (tree_of (top_shape ∷ shapes) k))
            (sym (get_or_append_left numbers (n ∷ []) 0 k less))
            (number_stays a b (slice_index numbers k) (tree_of (top_shape ∷ shapes) k) e (first.stand_for k less))
        | inr rest ↦
            let same : k ≡ c = omega (arith, long, first.as_many) in
            subst (λ (m : ℕ). IsNumber b (slice_index (numbers ++ n ∷ []) m) (tree_of (top_shape ∷ shapes) m))
            (sym same)
            (subst (λ (m : ℕ). IsNumber b m (tree_of (top_shape ∷ shapes) c))
            (sym (get_or_push numbers n 0 c first.as_many)) is)
      ];
    }

-- ---- the numbers of the axioms that are named

pub members_within : (s : Limited) (n : ℕ) (numbers : List ℕ) → numbers ≡ member_list s → IsWithin n s.members
    → All (λ k. (1 ≤ k) × (k ≤ n)) numbers
members_within s n numbers e within =
    subst (λ (ns : List ℕ). All (λ k. (1 ≤ k) × (k ≤ n)) ns) (sym e)
    (All-from_get_or (λ k. (1 ≤ k) × (k ≤ n)) (member_list s) 0
    (λ i lt. within (get_or (member_list s) i 0) (member_list-at s i lt).0))
