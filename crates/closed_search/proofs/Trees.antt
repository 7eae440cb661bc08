-- A shape whose parts are numbered anew stands for the same concept, and may be put after the refutation's shapes.
use Rattle.std.proofs.Common.{◌≡◌, ℕ, zero, suc, ◌+◌, ◌<◌, ◌≤◌, ◌||◌, not, eqb, ltb, leb, Bool, true, false, List, []}
use Rattle.std.proofs.Common.{◌∷◌, ◌++◌, map, length, get_or, refl, ap, sym, ◌∙◌, subst, arith, inl, inr, length-append}
use Rattle.std.specs.List.{list_all, position_or_len, All}
use Rattle.std.proofs.lemmas.Bool.{cases_Bool, cases_lt, eq-eqb, and_parts, and_from, lt-ltb, or_cases}
use Rattle.std.proofs.lemmas.List.{length-map, get_or_append_left, get_or_push}
use Rattle.shq_terms.specs.Concept.{Concept, top, bottom, intersection, union, some_of, all_of, at_least, at_most}
use Rattle.shq_terms.specs.Concept.{parts_of}
use Rattle.calculus_specs.specs.Shape.{Shape, shape_of, is_conjunct, is_disjunct, is_normal, IsTable}
use Rattle.calculus_specs.specs.Shape.Shape.{top as top_shape, bottom as bottom_shape, name as name_shape, not_name}
use Rattle.calculus_specs.specs.Shape.Shape.{intersection as and_shape, union as or_shape, some_of as some_shape}
use Rattle.calculus_specs.specs.Shape.Shape.{all_of as all_shape, at_least as least_shape, at_most as most_shape}
use Rattle.calculus_specs.specs.Tree.{tree_over, trees_of, tree_of}
use Rattle.calculus_specs.proofs.Tree.{tree_of_new, tree_of-append}
use Rattle.calculus_specs.proofs.Unique.{tree_of_shape, numbers_unique}
use Rattle.search_trace.specs.Shapes.{shape_at, is_concept, part_numbers, fits, same_shape, is_among_shapes, admits}
use Rattle.search_trace.specs.Shapes.{AreShapes}
use Rattle.search_trace.proofs.Shapes.{same_is_equal}
use Rattle.search_trace.proofs.Normal.{shapes_are_normal}
use Rattle.closed_search.specs.Numbers.{is_used, are_used, number_in, renumbered_shape}
use Rattle.closed_search.proofs.Places.{place_of}

-- ---- what a tree tells of its shape

abbrev may_be_conjunct : Concept → Bool
may_be_conjunct top = false
may_be_conjunct bottom = false
may_be_conjunct (intersection cs) = false
may_be_conjunct _ = true

abbrev may_be_disjunct : Concept → Bool
may_be_disjunct top = false
may_be_disjunct bottom = false
may_be_disjunct (union cs) = false
may_be_disjunct _ = true

conjunct_tree : (ts : List Concept) (s : Shape) → is_conjunct s ≡ may_be_conjunct (tree_over ts s)
conjunct_tree ts top_shape = refl
conjunct_tree ts bottom_shape = refl
conjunct_tree ts (name_shape a) = refl
conjunct_tree ts (not_name a) = refl
conjunct_tree ts (and_shape cs) = refl
conjunct_tree ts (or_shape cs) = refl
conjunct_tree ts (some_shape r c) = refl
conjunct_tree ts (all_shape r c) = refl
conjunct_tree ts (least_shape n r c) = refl
conjunct_tree ts (most_shape n r c) = refl

disjunct_tree : (ts : List Concept) (s : Shape) → is_disjunct s ≡ may_be_disjunct (tree_over ts s)
disjunct_tree ts top_shape = refl
disjunct_tree ts bottom_shape = refl
disjunct_tree ts (name_shape a) = refl
disjunct_tree ts (not_name a) = refl
disjunct_tree ts (and_shape cs) = refl
disjunct_tree ts (or_shape cs) = refl
disjunct_tree ts (some_shape r c) = refl
disjunct_tree ts (all_shape r c) = refl
disjunct_tree ts (least_shape n r c) = refl
disjunct_tree ts (most_shape n r c) = refl

module _ (table : List Shape) (used : List ℕ) (shapes : List Shape) (same_length : length shapes ≡ length used)
    (listed : All (λ c. c < length table) used)
    (reads : (k : ℕ) → k < length used → tree_of (top_shape ∷ shapes) (k + 1) ≡ tree_of table (get_or used k 0)) where
  abbrev all_shapes : List Shape
  all_shapes = top_shape ∷ shapes

  abbrev to : ℕ → ℕ
  to c = number_in used c

  pub record IsRead (c : ℕ) : Type 0 where
    pub is_number : is_concept shapes (to c) ≡ true
    pub low : 1 ≤ to c
    pub high : to c ≤ length shapes
    pub stands_for : tree_of all_shapes (to c) ≡ tree_of table c
    pub is_listed : c < length table

  pub is_read : (c : ℕ) → is_used used c ≡ true → IsRead c
  is_read c h =
      let p = place_of used c h in
      let k = position_or_len (eqb c) used in
      let lt : k < length used = p.within in
      record {
        is_number =
            and_from (ltb 0 (k + 1)) (ltb (k + 1) (length shapes + 1)) (lt-ltb 0 (k + 1) (omega arith))
            (lt-ltb (k + 1) (length shapes + 1) (omega (arith, same_length)));
        low = omega arith;
        high = omega (arith, same_length);
        stands_for = reads k lt ∙ ap (tree_of table) p.at;
        is_listed = subst (λ (d : ℕ). d < length table) p.at (listed k 0 lt);
      }

  trees_read : (cs : List ℕ) → are_used used cs ≡ true → map (tree_of all_shapes) (map to cs) ≡ map (tree_of table) cs
  trees_read [] h = refl
  trees_read (c ∷ cs) h =
      let t = and_parts (is_used used c) (are_used used cs) h in
      let e = (is_read c t.0).stands_for in
      let f = trees_read cs t.1 in
      cc

  one_used : (c : ℕ) → are_used used (c ∷ []) ≡ true → is_used used c ≡ true
  one_used c h = (and_parts (is_used used c) true h).0

  pub tree_read : (s : Shape) → are_used used (part_numbers s) ≡ true
      → tree_over (trees_of all_shapes) (renumbered_shape to s) ≡ tree_over (trees_of table) s
  tree_read top_shape h = refl
  tree_read bottom_shape h = refl
  tree_read (name_shape a) h = refl
  tree_read (not_name a) h = refl
  tree_read (and_shape cs) h = ap (λ (l : List Concept). intersection (parts_of l)) (trees_read cs h)
  tree_read (or_shape cs) h = ap (λ (l : List Concept). union (parts_of l)) (trees_read cs h)
  tree_read (some_shape r c) h = ap (some_of r) (is_read c (one_used c h)).stands_for
  tree_read (all_shape r c) h = ap (all_of r) (is_read c (one_used c h)).stands_for
  tree_read (least_shape n r c) h = ap (at_least n r) (is_read c (one_used c h)).stands_for
  tree_read (most_shape n r c) h = ap (at_most n r) (is_read c (one_used c h)).stands_for

  pub are_numbers : (cs : List ℕ) → are_used used cs ≡ true → list_all (is_concept shapes) (map to cs) ≡ true
  are_numbers [] h = refl
  are_numbers (c ∷ cs) h =
      let t = and_parts (is_used used c) (are_used used cs) h in
      and_from (is_concept shapes (to c)) (list_all (is_concept shapes) (map to cs)) (is_read c t.0).is_number
      (are_numbers cs t.1)

  pub parts_are_numbers : (s : Shape) → are_used used (part_numbers s) ≡ true
      → list_all (is_concept shapes) (part_numbers (renumbered_shape to s)) ≡ true
  parts_are_numbers top_shape h = refl
  parts_are_numbers bottom_shape h = refl
  parts_are_numbers (name_shape a) h = refl
  parts_are_numbers (not_name a) h = refl
  parts_are_numbers (and_shape cs) h = are_numbers cs h
  parts_are_numbers (or_shape cs) h = are_numbers cs h
  parts_are_numbers (some_shape r c) h = are_numbers (c ∷ []) h
  parts_are_numbers (all_shape r c) h = are_numbers (c ∷ []) h
  parts_are_numbers (least_shape n r c) h = are_numbers (c ∷ []) h
  parts_are_numbers (most_shape n r c) h = are_numbers (c ∷ []) h

module _ (table : List Shape) (is_table : IsTable table) (used : List ℕ) (shapes : List Shape)
    (are_shapes : AreShapes shapes) (same_length : length shapes ≡ length used)
    (listed : All (λ c. c < length table) used)
    (reads : (k : ℕ) → k < length used → tree_of (top_shape ∷ shapes) (k + 1) ≡ tree_of table (get_or used k 0)) where
  abbrev every : List Shape
  every = top_shape ∷ shapes

  abbrev number : ℕ → ℕ
  number c = number_in used c

  read : (c : ℕ) → is_used used c ≡ true → IsRead table used shapes same_length listed reads c
  read = is_read table used shapes same_length listed reads

  -- ---- it is admitted

  new_tree : (n : ℕ) → 1 ≤ n → n ≤ length shapes → tree_of every n ≡ tree_over (trees_of every) (shape_at shapes n)
  new_tree n low high = tree_of_shape every n (omega arith) (shapes_are_normal shapes are_shapes n low high).0

  old_tree : (c : ℕ) → c < length table → tree_of table c ≡ tree_over (trees_of table) (shape_of table c)
  old_tree c lt = tree_of_shape table c lt (is_table.parts_below c lt)

  same_conjunct : (c : ℕ) → is_used used c ≡ true
      → is_conjunct (shape_at shapes (number c)) ≡ is_conjunct (shape_of table c)
  same_conjunct c h =
      let r = read c h in
      conjunct_tree (trees_of every) (shape_at shapes (number c))
      ∙ ap may_be_conjunct (sym (new_tree (number c) r.low r.high) ∙ r.stands_for ∙ old_tree c r.is_listed)
      ∙ sym (conjunct_tree (trees_of table) (shape_of table c))

  same_disjunct : (c : ℕ) → is_used used c ≡ true
      → is_disjunct (shape_at shapes (number c)) ≡ is_disjunct (shape_of table c)
  same_disjunct c h =
      let r = read c h in
      disjunct_tree (trees_of every) (shape_at shapes (number c))
      ∙ ap may_be_disjunct (sym (new_tree (number c) r.low r.high) ∙ r.stands_for ∙ old_tree c r.is_listed)
      ∙ sym (disjunct_tree (trees_of table) (shape_of table c))

  mapped : (p q : ℕ → Bool) → ((c : ℕ) → is_used used c ≡ true → p (number c) ≡ q c) → (cs : List ℕ)
      → are_used used cs ≡ true → list_all q cs ≡ true → list_all p (map number cs) ≡ true
  mapped p q same [] h g = refl
  mapped p q same (c ∷ cs) h g =
      let t = and_parts (is_used used c) (are_used used cs) h in
      let u = and_parts (q c) (list_all q cs) g in
      and_from (p (number c)) (list_all p (map number cs)) (same c t.0 ∙ u.0) (mapped p q same cs t.1 u.1)

  stays_normal : (s : Shape) → are_used used (part_numbers s) ≡ true → is_normal table s ≡ true
      → is_normal every (renumbered_shape number s) ≡ true
  stays_normal top_shape h g = refl
  stays_normal bottom_shape h g = refl
  stays_normal (name_shape a) h g = refl
  stays_normal (not_name a) h g = refl
  stays_normal (and_shape cs) h g =
      let t = and_parts (leb 2 (length cs)) (list_all (λ c. is_conjunct (shape_of table c)) cs) g in
      and_from (leb 2 (length (map number cs))) (list_all (λ c. is_conjunct (shape_at shapes c)) (map number cs))
      (ap (leb 2) (length-map cs number) ∙ t.0)
      (mapped (λ c. is_conjunct (shape_at shapes c)) (λ c. is_conjunct (shape_of table c)) same_conjunct cs h t.1)
  stays_normal (or_shape cs) h g =
      let t = and_parts (leb 2 (length cs)) (list_all (λ c. is_disjunct (shape_of table c)) cs) g in
      and_from (leb 2 (length (map number cs))) (list_all (λ c. is_disjunct (shape_at shapes c)) (map number cs))
      (ap (leb 2) (length-map cs number) ∙ t.0)
      (mapped (λ c. is_disjunct (shape_at shapes c)) (λ c. is_disjunct (shape_of table c)) same_disjunct cs h t.1)
  stays_normal (some_shape r c) h g = refl
  stays_normal (all_shape r c) h g = refl
  stays_normal (least_shape n r c) h g = g
  stays_normal (most_shape n r c) h g = g

  -- a shape that is there stands for a concept that is named
  record IsFound (s : Shape) (ts : List Shape) : Type 0 where
    place : ℕ
    within : place < length ts
    at : get_or ts place top_shape ≡ s

  found : (s : Shape) (ts : List Shape) → is_among_shapes ts s ≡ true → IsFound s ts
  found s [] h = cc
  found s (t ∷ ts) h = elim (or_cases (same_shape s t) (is_among_shapes ts s) h) [
    | inl here ↦ record { place = 0; within = omega arith; at = sym (same_is_equal s t here) }
    | inr later ↦
        let f = found s ts later in record { place = suc f.place; within = omega (arith, f.within); at = f.at }
  ]

  named_there : (c k : ℕ) → k < length used → get_or used k 0 ≡ c → is_used used c ≡ true
  named_there c k lt e = among used k lt e
    where
      among : (us : List ℕ) (k : ℕ) → k < length us → get_or us k 0 ≡ c → is_used us c ≡ true
      among [] k lt e = absurd (omega arith)
      among (u ∷ us) zero lt e = rw (eq-eqb c u (sym e)) refl
      among (u ∷ us) (suc k) lt e = elim (eqb c u) as (λ (b : Bool). (b || is_used us c) ≡ true)
          [ true ↦ refl | false ↦ among us k (omega arith) e ]

  module _ (c : ℕ) (c_listed : c < length table) (new : is_used used c ≡ false)
      (parts : are_used used (part_numbers (shape_of table c)) ≡ true) where
    abbrev shape : Shape
    shape = renumbered_shape number (shape_of table c)

    stands_for : tree_over (trees_of every) shape ≡ tree_of table c
    stands_for =
        tree_read table used shapes same_length listed reads (shape_of table c) parts ∙ sym (old_tree c c_listed)

    not_there : is_among_shapes shapes shape ≡ false
    not_there = elim (cases_Bool (is_among_shapes shapes shape)) [
      | inr isnt ↦ isnt
      | inl is ↦
          let f = found shape shapes is in
          let k = f.place in
          let lt : k < length used = omega (arith, f.within, same_length) in
          let there : shape_at shapes (k + 1) ≡ shape =
          let e : k + 1 ≡ suc k = omega arith in ap (shape_at shapes) e ∙ f.at in
          let same : tree_of table (get_or used k 0) ≡ tree_of table c =
          sym (reads k lt) ∙ new_tree (k + 1) (omega arith) (omega (arith, f.within))
          ∙ ap (tree_over (trees_of every)) there ∙ stands_for in
          let one : get_or used k 0 ≡ c =
          numbers_unique table is_table (get_or used k 0) c (listed k 0 lt) c_listed same in
          let named = named_there c k lt one in
          cc
    ]

    pub is_admitted : admits shapes shape ≡ true
    is_admitted =
        and_from (fits shapes shape) (not (is_among_shapes shapes shape))
        (and_from (list_all (is_concept shapes) (part_numbers shape)) (is_normal every shape)
        (parts_are_numbers table used shapes same_length listed reads (shape_of table c) parts)
        (stays_normal (shape_of table c) parts (is_table.are_normal c c_listed)))
        (ap not not_there)

    -- with it, one concept more is read
    pub reads_more : (k : ℕ) → k < length (used ++ c ∷ [])
        → tree_of (top_shape ∷ (shapes ++ shape ∷ [])) (k + 1) ≡ tree_of table (get_or (used ++ c ∷ []) k 0)
    reads_more k lt = elim (cases_lt k (length used)) [
      | inl less ↦
          tree_of-append every (shape ∷ []) (k + 1) (omega (arith, same_length)) ∙ reads k less
          ∙ ap (tree_of table) (sym (get_or_append_left used (c ∷ []) 0 k less))
      | inr rest ↦
          let last : k ≡ length used = omega (arith, length-append used (c ∷ [])) in
          let place : k + 1 ≡ length every = omega (arith, same_length) in
          ap (tree_of (every ++ shape ∷ [])) place ∙ tree_of_new every shape [] ∙ stands_for
          ∙ ap (tree_of table) (sym (get_or_push used c 0 k (sym last)))
    ]
