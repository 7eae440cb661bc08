-- Shapes that are numbered from 1 are normal over all of them, after top.
use Rattle.std.proofs.Common.{◌≡◌, ℕ, zero, suc, ◌+◌, ◌<◌, ◌≤◌, true, List, [], ◌∷◌, length, take, refl, ap, sym, ◌∙◌}
use Rattle.std.proofs.Common.{arith}
use Rattle.std.specs.Prelude.{nat_lt, slice_index_or}
use Rattle.std.specs.List.{list_all}
use Rattle.std.proofs.lemmas.Bool.{and_parts, and_from, ltb-true, lt-ltb}
use Rattle.std.proofs.lemmas.List.{get_or-take, length-take}
use Rattle.shq_nnf.specs.Shape.{Shape, shape_of, has_parts_below, is_normal}
use Rattle.shq_nnf.specs.Shape.Shape.{top, bottom, name, not_name, intersection, union, some_of, all_of}
use Rattle.shq_nnf.specs.Shape.Shape.{at_least, at_most}
use Rattle.shq_nnf.proofs.Grown.{normal_agree}
use Rattle.refutation_tree.specs.Shapes.{shape_at, is_concept, part_numbers, AreShapes}

module _ (front : List Shape) (n : ℕ) (long : length front ≡ n) where
  all_below : (cs : List ℕ) → list_all (is_concept front) cs ≡ true → list_all (λ c. nat_lt c (n + 1)) cs ≡ true
  all_below [] h = refl
  all_below (c ∷ cs) h =
      let parts = and_parts (is_concept front c) (list_all (is_concept front) cs) h in
      let below = ltb-true c (length front + 1) (and_parts (nat_lt 0 c) (nat_lt c (length front + 1)) parts.0).1 in
      and_from (nat_lt c (n + 1)) (list_all (λ d. nat_lt d (n + 1)) cs) (lt-ltb c (n + 1) (omega (arith, below, long)))
      (all_below cs parts.1)

  one_below : (c : ℕ) → list_all (is_concept front) (c ∷ []) ≡ true → nat_lt c (n + 1) ≡ true
  one_below c h = (and_parts (nat_lt c (n + 1)) true (all_below (c ∷ []) h)).0

  parts_below : (s : Shape) → list_all (is_concept front) (part_numbers s) ≡ true → has_parts_below (n + 1) s ≡ true
  parts_below top h = refl
  parts_below bottom h = refl
  parts_below (name a) h = refl
  parts_below (not_name a) h = refl
  parts_below (intersection cs) h = all_below cs h
  parts_below (union cs) h = all_below cs h
  parts_below (some_of r c) h = one_below c h
  parts_below (all_of r c) h = one_below c h
  parts_below (at_least m r c) h = one_below c h
  parts_below (at_most m r c) h = one_below c h

same_below : (shapes : List Shape) (n : ℕ) → n < length shapes → (c : ℕ) → c < n + 1
    → shape_of (top ∷ take n shapes) c ≡ shape_of (top ∷ shapes) c
same_below shapes n lt zero less = refl
same_below shapes n lt (suc c) less = get_or-take n shapes c top (omega arith)

at_place : (shapes : List Shape) → AreShapes shapes → (n : ℕ) → n < length shapes
    → (has_parts_below (n + 1) (slice_index_or shapes n top) ≡ true)
    × (is_normal (top ∷ shapes) (slice_index_or shapes n top) ≡ true)
at_place shapes good n lt =
    let s = slice_index_or shapes n top in
    let front = take n shapes in
    let long : length front ≡ n = omega (arith, length-take n shapes) in
    let fit = and_parts (list_all (is_concept front) (part_numbers s)) (is_normal (top ∷ front) s) (good.fit n lt) in
    let below = parts_below front n long s fit.0 in
    (below, normal_agree (top ∷ front) (top ∷ shapes) (n + 1) s (same_below shapes n lt) below fit.1)

pub shapes_are_normal : (shapes : List Shape) → AreShapes shapes → (c : ℕ) → 1 ≤ c → c ≤ length shapes
    → (has_parts_below c (shape_at shapes c) ≡ true) × (is_normal (top ∷ shapes) (shape_at shapes c) ≡ true)
shapes_are_normal shapes good zero low high = absurd (omega arith)
shapes_are_normal shapes good (suc n) low high =
    let next : n + 1 ≡ suc n = omega arith in
    let here = at_place shapes good n (omega arith) in
    (ap (λ k. has_parts_below k (slice_index_or shapes n top)) (sym next) ∙ here.0, here.1)
