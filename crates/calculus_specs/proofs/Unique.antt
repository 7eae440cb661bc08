-- Trees of shapes, and that equal trees have equal numbers.
use Rattle.std.proofs.Common.{◌≡◌, ℕ, zero, suc, ◌+◌, ◌<◌, ltb, List, [], ◌∷◌, ◌++◌, map, length, get_or, take, drop}
use Rattle.std.proofs.Common.{true, refl, ap, ◌∙◌, sym, arith}
use Rattle.std.specs.List.{list_all}
use Rattle.std.proofs.lemmas.List.{length-take-le}
use Rattle.std.proofs.lemmas.Bool.{ltb-true, and_parts}
use Rattle.std.proofs.Math.Seq.{split_at}
use Rattle.shq_base.specs.Concept.{Concept, top, intersection, union, some_of, all_of, at_least, at_most, parts_of}
use Rattle.shq_base.specs.Concept.{part_list}
use Rattle.calculus_specs.specs.Shape.{Shape, shape_of, has_parts_below, IsTable}
use Rattle.calculus_specs.specs.Shape.Shape.{top as top_shape, bottom as bottom_shape, name as name_shape, not_name}
use Rattle.calculus_specs.specs.Shape.Shape.{intersection as intersection_shape, union as union_shape}
use Rattle.calculus_specs.specs.Shape.Shape.{some_of as some_shape, all_of as all_shape, at_least as least_shape}
use Rattle.calculus_specs.specs.Shape.Shape.{at_most as most_shape}
use Rattle.calculus_specs.specs.Tree.{tree_over, trees_of, tree_of}
use Rattle.calculus_specs.proofs.Tree.{tree_of_new, tree_of-append}

-- ---- only the trees below a bound matter to a shape whose parts are below it

map_agree : (ts us : List Concept) (n : ℕ) (cs : List ℕ) → list_all (λ c. ltb c n) cs ≡ true
    → ((c : ℕ) → c < n → get_or ts c top ≡ get_or us c top)
    → map (λ c. get_or ts c top) cs ≡ map (λ c. get_or us c top) cs
map_agree ts us n [] h agree = refl
map_agree ts us n (c ∷ cs) h agree =
    let t = and_parts (ltb c n) (list_all (λ d. ltb d n) cs) h in
    let e = agree c (ltb-true c n t.0) in
    let f = map_agree ts us n cs t.1 agree in
    cc

tree_over_agree : (ts us : List Concept) (n : ℕ) (s : Shape) → has_parts_below n s ≡ true
    → ((c : ℕ) → c < n → get_or ts c top ≡ get_or us c top) → tree_over ts s ≡ tree_over us s
tree_over_agree ts us n top_shape h agree = refl
tree_over_agree ts us n bottom_shape h agree = refl
tree_over_agree ts us n (name_shape a) h agree = refl
tree_over_agree ts us n (not_name a) h agree = refl
tree_over_agree ts us n (intersection_shape cs) h agree =
    ap (λ (l : List Concept). intersection (parts_of l)) (map_agree ts us n cs h agree)
tree_over_agree ts us n (union_shape cs) h agree =
    ap (λ (l : List Concept). union (parts_of l)) (map_agree ts us n cs h agree)
tree_over_agree ts us n (some_shape r c) h agree = ap (some_of r) (agree c (ltb-true c n h))
tree_over_agree ts us n (all_shape r c) h agree = ap (all_of r) (agree c (ltb-true c n h))
tree_over_agree ts us n (least_shape m r c) h agree = ap (at_least m r) (agree c (ltb-true c n h))
tree_over_agree ts us n (most_shape m r c) h agree = ap (at_most m r) (agree c (ltb-true c n h))

pub tree_of_shape : (table : List Shape) (c : ℕ) → c < length table → has_parts_below c (shape_of table c) ≡ true
    → tree_of table c ≡ tree_over (trees_of table) (shape_of table c)
tree_of_shape table c lt h =
    let front = take c table in
    let s = shape_of table c in
    let rest = drop (suc c) table in
    let e : table ≡ front ++ s ∷ rest = split_at table c top_shape lt in
    let long : length front ≡ c = length-take-le c table (omega arith) in
    let at : tree_of (front ++ s ∷ rest) c ≡ tree_over (trees_of front) s =
    ap (tree_of (front ++ s ∷ rest)) (sym long) ∙ tree_of_new front s rest in
    let agree : (d : ℕ) → d < c → get_or (trees_of front) d top ≡ get_or (trees_of table) d top =
    λ d less. sym (ap (λ (t : List Shape). tree_of t d) e ∙ tree_of-append front (s ∷ rest) d (omega (arith, long))) in
    ap (λ (t : List Shape). tree_of t c) e ∙ at ∙ tree_over_agree (trees_of front) (trees_of table) c s h agree

-- ---- shapes of equal trees

pub part_list-parts_of : (cs : List Concept) → part_list (parts_of cs) ≡ cs
part_list-parts_of [] = refl
part_list-parts_of (c ∷ cs) = ap (λ (l : List Concept). c ∷ l) (part_list-parts_of cs)

abbrev inner : Concept → List Concept
inner (intersection cs) = part_list cs
inner (union cs) = part_list cs
inner _ = []

module _ (trees : List Concept) (m n : ℕ)
    (unique : (p q : ℕ) → p < m → q < n → get_or trees p top ≡ get_or trees q top → p ≡ q) where
  map_unique : (cs ds : List ℕ) → list_all (λ c. ltb c m) cs ≡ true → list_all (λ c. ltb c n) ds ≡ true
      → map (λ c. get_or trees c top) cs ≡ map (λ c. get_or trees c top) ds → cs ≡ ds
  map_unique [] [] h g e = refl
  map_unique [] (d ∷ ds) h g e = cc
  map_unique (c ∷ cs) [] h g e = cc
  map_unique (c ∷ cs) (d ∷ ds) h g e =
      let t = and_parts (ltb c m) (list_all (λ p. ltb p m) cs) h in
      let u = and_parts (ltb d n) (list_all (λ p. ltb p n) ds) g in
      let head : get_or trees c top ≡ get_or trees d top = cc in
      let tail : map (λ p. get_or trees p top) cs ≡ map (λ p. get_or trees p top) ds = cc in
      let a = unique c d (ltb-true c m t.0) (ltb-true d n u.0) head in
      let b = map_unique cs ds t.1 u.1 tail in
      cc

  inner_lists : (xs ys : List Concept) → parts_of xs ≡ parts_of ys → xs ≡ ys
  inner_lists xs ys e = sym (part_list-parts_of xs) ∙ ap part_list e ∙ part_list-parts_of ys

  -- the shapes of two equal trees
  same_shape : (s t : Shape) → has_parts_below m s ≡ true → has_parts_below n t ≡ true
      → tree_over trees s ≡ tree_over trees t → s ≡ t
  same_shape top_shape top_shape h g e = refl
  same_shape bottom_shape bottom_shape h g e = refl
  same_shape (name_shape a) (name_shape b) h g e = cc
  same_shape (not_name a) (not_name b) h g e = cc
  same_shape (intersection_shape cs) (intersection_shape ds) h g e =
      ap intersection_shape
      (map_unique cs ds h g (inner_lists (map (λ c. get_or trees c top) cs) (map (λ c. get_or trees c top) ds) cc))
  same_shape (union_shape cs) (union_shape ds) h g e =
      ap union_shape
      (map_unique cs ds h g (inner_lists (map (λ c. get_or trees c top) cs) (map (λ c. get_or trees c top) ds) cc))
  same_shape (some_shape r c) (some_shape s d) h g e = let f = unique c d (ltb-true c m h) (ltb-true d n g) cc in cc
  same_shape (all_shape r c) (all_shape s d) h g e = let f = unique c d (ltb-true c m h) (ltb-true d n g) cc in cc
  same_shape (least_shape k r c) (least_shape l s d) h g e =
      let f = unique c d (ltb-true c m h) (ltb-true d n g) cc in cc
  same_shape (most_shape k r c) (most_shape l s d) h g e = let f = unique c d (ltb-true c m h) (ltb-true d n g) cc in cc
  same_shape _ _ h g e = cc

unique_below : (table : List Shape) → IsTable table → (n c d : ℕ) → c < n → c < length table → d < length table
    → tree_of table c ≡ tree_of table d → c ≡ d
unique_below table good zero c d less lt mt e = absurd (omega arith)
unique_below table good (suc n) c d less lt mt e =
    let f : tree_over (trees_of table) (shape_of table c) ≡ tree_over (trees_of table) (shape_of table d) =
    sym (tree_of_shape table c lt (good.parts_below c lt)) ∙ e ∙ tree_of_shape table d mt (good.parts_below d mt) in
    good.are_distinct c d lt mt (same_shape (trees_of table) c d
    (λ p q pc qd same. unique_below table good n p q (omega arith) (omega arith) (omega arith) same)
    (shape_of table c) (shape_of table d) (good.parts_below c lt) (good.parts_below d mt) f)

pub numbers_unique : (table : List Shape) → IsTable table → (c d : ℕ) → c < length table → d < length table
    → tree_of table c ≡ tree_of table d → c ≡ d
numbers_unique table good c d lt mt e = unique_below table good (c + 1) c d (omega arith) lt mt e
