-- The normal form of a concept is not deeper, and neither is that of its complement.
use Rattle.std.proofs.Common.{◌≡◌, ℕ, zero, suc, ◌+◌, ◌≤◌, max, not, Bool, true, false, cond, List, [], ◌∷◌, ◌++◌}
use Rattle.std.proofs.Common.{filter, refl, ap, arith}
use Rattle.std.specs.List.{list_any, flat_map}
use Rattle.shq_base.specs.Concept.{Concept, top, bottom, name, complement, intersection, union, some_of, all_of}
use Rattle.shq_base.specs.Concept.{at_least, at_most, exactly, Parts, no_parts, part, parts_of, part_list}
use Rattle.calculus_specs.specs.Normal.{is_top, is_bottom, conjuncts_of, conjuncts, intersected, and_of, disjuncts_of}
use Rattle.calculus_specs.specs.Normal.{disjuncts, united, or_of, least_form, fewer_form, most_form, more_form}
use Rattle.calculus_specs.specs.Normal.{normal_form, negated_form, normal_forms, negated_forms}
use Rattle.calculus_specs.specs.Depth.{role_depth, role_depth_parts}

-- the greatest depth
abbrev deepest : List Concept → ℕ
deepest [] = 0
deepest (c ∷ cs) = max (role_depth c) (deepest cs)

deepest-parts_of : (cs : List Concept) → role_depth_parts (parts_of cs) ≡ deepest cs
deepest-parts_of [] = refl
deepest-parts_of (c ∷ cs) = ap (max (role_depth c)) (deepest-parts_of cs)

deepest-part_list : (cs : Parts) → deepest (part_list cs) ≡ role_depth_parts cs
deepest-part_list no_parts = refl
deepest-part_list (part c cs) = ap (max (role_depth c)) (deepest-part_list cs)

deepest-append : (cs ds : List Concept) → deepest (cs ++ ds) ≡ max (deepest cs) (deepest ds)
deepest-append [] ds = omega arith
deepest-append (c ∷ cs) ds = omega (arith, deepest-append cs ds)

deepest-filter : (p : Concept → Bool) (cs : List Concept) → deepest (filter p cs) ≤ deepest cs
deepest-filter p [] = omega arith
deepest-filter p (c ∷ cs) =
    elim (p c) as (λ b. deepest (cond b (c ∷ filter p cs) (filter p cs)) ≤ max (role_depth c) (deepest cs)) [
      | true ↦ omega (arith, deepest-filter p cs)
      | false ↦ omega (arith, deepest-filter p cs)
    ]

deepest-one : (c : Concept) → deepest (c ∷ []) ≤ role_depth c
deepest-one c = omega arith

conjuncts_depth : (c : Concept) → deepest (conjuncts_of c) ≤ role_depth c
conjuncts_depth (intersection cs) = omega (arith, deepest-part_list cs)
conjuncts_depth top = omega arith
conjuncts_depth bottom = omega arith
conjuncts_depth (name a) = omega arith
conjuncts_depth (complement c) = omega arith
conjuncts_depth (union cs) = omega arith
conjuncts_depth (some_of r c) = omega arith
conjuncts_depth (all_of r c) = omega arith
conjuncts_depth (at_least n r c) = omega arith
conjuncts_depth (at_most n r c) = omega arith
conjuncts_depth (exactly n r c) = omega arith

disjuncts_depth : (c : Concept) → deepest (disjuncts_of c) ≤ role_depth c
disjuncts_depth (union cs) = omega (arith, deepest-part_list cs)
disjuncts_depth top = omega arith
disjuncts_depth bottom = omega arith
disjuncts_depth (name a) = omega arith
disjuncts_depth (complement c) = omega arith
disjuncts_depth (intersection cs) = omega arith
disjuncts_depth (some_of r c) = omega arith
disjuncts_depth (all_of r c) = omega arith
disjuncts_depth (at_least n r c) = omega arith
disjuncts_depth (at_most n r c) = omega arith
disjuncts_depth (exactly n r c) = omega arith

opened_depth : (f : Concept → List Concept) → ((c : Concept) → deepest (f c) ≤ role_depth c) → (cs : List Concept)
    → deepest (flat_map f cs) ≤ deepest cs
opened_depth f each [] = omega arith
opened_depth f each (c ∷ cs) = omega (arith, deepest-append (f c) (flat_map f cs), each c, opened_depth f each cs)

intersected_depth : (cs : List Concept) → role_depth (intersected cs) ≤ deepest cs
intersected_depth [] = omega arith
intersected_depth (c ∷ []) = omega arith
intersected_depth (c ∷ d ∷ cs) = omega (arith, deepest-parts_of cs)

united_depth : (cs : List Concept) → role_depth (united cs) ≤ deepest cs
united_depth [] = omega arith
united_depth (c ∷ []) = omega arith
united_depth (c ∷ d ∷ cs) = omega (arith, deepest-parts_of cs)

either_depth : (b : Bool) (c d : Concept) (n : ℕ) → role_depth c ≤ n → role_depth d ≤ n → role_depth (cond b c d) ≤ n
either_depth true c d n h g = h
either_depth false c d n h g = g

and_depth : (cs : List Concept) → role_depth (and_of cs) ≤ deepest cs
and_depth cs =
    let opened = opened_depth conjuncts_of conjuncts_depth cs in
    let kept = deepest-filter (λ c. not (is_top c)) (flat_map conjuncts_of cs) in
    let made = intersected_depth (conjuncts cs) in
    either_depth (list_any is_bottom (conjuncts cs)) bottom (intersected (conjuncts cs)) (deepest cs) (omega arith)
    (omega (arith, made, kept, opened))

or_depth : (cs : List Concept) → role_depth (or_of cs) ≤ deepest cs
or_depth cs =
    let opened = opened_depth disjuncts_of disjuncts_depth cs in
    let kept = deepest-filter (λ c. not (is_bottom c)) (flat_map disjuncts_of cs) in
    let made = united_depth (disjuncts cs) in
    either_depth (list_any is_top (disjuncts cs)) top (united (disjuncts cs)) (deepest cs) (omega arith)
    (omega (arith, made, kept, opened))

least_depth : (n r : ℕ) (c : Concept) → role_depth (least_form n r c) ≤ role_depth c + 1
least_depth zero r c = omega arith
least_depth (suc zero) r c = omega arith
least_depth (suc (suc n)) r c = omega arith

fewer_depth : (n r k : ℕ) (c d : Concept) → role_depth c ≤ k → role_depth d ≤ k
    → role_depth (fewer_form n r c d) ≤ k + 1
fewer_depth zero r k c d h g = omega arith
fewer_depth (suc zero) r k c d h g = omega arith
fewer_depth (suc (suc n)) r k c d h g = omega arith

most_depth : (n r k : ℕ) (c d : Concept) → role_depth c ≤ k → role_depth d ≤ k → role_depth (most_form n r c d) ≤ k + 1
most_depth zero r k c d h g = omega arith
most_depth (suc n) r k c d h g = omega arith

more_depth : (n r : ℕ) (c : Concept) → role_depth (more_form n r c) ≤ role_depth c + 1
more_depth zero r c = omega arith
more_depth (suc n) r c = omega arith

mutual
  pub normal_depth : (c : Concept) → role_depth (normal_form c) ≤ role_depth c
  normal_depth top = omega arith
  normal_depth bottom = omega arith
  normal_depth (name a) = omega arith
  normal_depth (complement c) = negated_depth c
  normal_depth (intersection cs) = omega (arith, and_depth (normal_forms cs), normals_depth cs)
  normal_depth (union cs) = omega (arith, or_depth (normal_forms cs), normals_depth cs)
  normal_depth (some_of r c) = omega (arith, normal_depth c)
  normal_depth (all_of r c) = omega (arith, normal_depth c)
  normal_depth (at_least n r c) = omega (arith, least_depth n r (normal_form c), normal_depth c)
  normal_depth (at_most n r c) =
      most_depth n r (role_depth c) (normal_form c) (negated_form c) (normal_depth c) (negated_depth c)
  normal_depth (exactly n r c) =
      omega (
        arith,
        and_depth (least_form n r (normal_form c) ∷ most_form n r (normal_form c) (negated_form c) ∷ []),
        least_depth n r (normal_form c),
        normal_depth c,
        most_depth n r (role_depth c) (normal_form c) (negated_form c) (normal_depth c) (negated_depth c),
      )

  pub negated_depth : (c : Concept) → role_depth (negated_form c) ≤ role_depth c
  negated_depth top = omega arith
  negated_depth bottom = omega arith
  negated_depth (name a) = omega arith
  negated_depth (complement c) = normal_depth c
  negated_depth (intersection cs) = omega (arith, or_depth (negated_forms cs), negateds_depth cs)
  negated_depth (union cs) = omega (arith, and_depth (negated_forms cs), negateds_depth cs)
  negated_depth (some_of r c) = omega (arith, negated_depth c)
  negated_depth (all_of r c) = omega (arith, negated_depth c)
  negated_depth (at_least n r c) =
      fewer_depth n r (role_depth c) (normal_form c) (negated_form c) (normal_depth c) (negated_depth c)
  negated_depth (at_most n r c) = omega (arith, more_depth n r (normal_form c), normal_depth c)
  negated_depth (exactly n r c) =
      omega (
        arith,
        or_depth (fewer_form n r (normal_form c) (negated_form c) ∷ more_form n r (normal_form c) ∷ []),
        more_depth n r (normal_form c),
        normal_depth c,
        fewer_depth n r (role_depth c) (normal_form c) (negated_form c) (normal_depth c) (negated_depth c),
      )

  normals_depth : (cs : Parts) → deepest (normal_forms cs) ≤ role_depth_parts cs
  normals_depth no_parts = omega arith
  normals_depth (part c cs) = omega (arith, normal_depth c, normals_depth cs)

  negateds_depth : (cs : Parts) → deepest (negated_forms cs) ≤ role_depth_parts cs
  negateds_depth no_parts = omega arith
  negateds_depth (part c cs) = omega (arith, negated_depth c, negateds_depth cs)
