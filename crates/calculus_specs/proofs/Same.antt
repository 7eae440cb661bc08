-- The test of trees is equality.
use Rattle.std.proofs.Common.{◌≡◌, ◌&&◌, true, eqb, eq-eqb, refl, ap}
use Rattle.std.proofs.lemmas.Bool.{eqb-true, and_parts}
use Rattle.shq_base.specs.Concept.{Concept, top, bottom, name, complement, intersection, union, some_of, all_of}
use Rattle.shq_base.specs.Concept.{at_least, at_most, exactly, Parts, no_parts, part}
use Rattle.calculus_specs.specs.Same.{is_same, are_same}

mutual
  pub same_to_eq : (c d : Concept) → is_same c d ≡ true → c ≡ d
  same_to_eq top top h = refl
  same_to_eq bottom bottom h = refl
  same_to_eq (name a) (name b) h = ap name (eqb-true a b h)
  same_to_eq (complement c) (complement d) h = ap complement (same_to_eq c d h)
  same_to_eq (intersection cs) (intersection ds) h = ap intersection (same_to_eq_parts cs ds h)
  same_to_eq (union cs) (union ds) h = ap union (same_to_eq_parts cs ds h)
  same_to_eq (some_of r c) (some_of s d) h =
      let t = and_parts (eqb r s) (is_same c d) h in let e = eqb-true r s t.0 in let f = same_to_eq c d t.1 in cc
  same_to_eq (all_of r c) (all_of s d) h =
      let t = and_parts (eqb r s) (is_same c d) h in let e = eqb-true r s t.0 in let f = same_to_eq c d t.1 in cc
  same_to_eq (at_least n r c) (at_least m s d) h =
      let t = and_parts (eqb n m && eqb r s) (is_same c d) h in
      let u = and_parts (eqb n m) (eqb r s) t.0 in
      let e = eqb-true n m u.0 in let g = eqb-true r s u.1 in let f = same_to_eq c d t.1 in cc
  same_to_eq (at_most n r c) (at_most m s d) h =
      let t = and_parts (eqb n m && eqb r s) (is_same c d) h in
      let u = and_parts (eqb n m) (eqb r s) t.0 in
      let e = eqb-true n m u.0 in let g = eqb-true r s u.1 in let f = same_to_eq c d t.1 in cc
  same_to_eq (exactly n r c) (exactly m s d) h =
      let t = and_parts (eqb n m && eqb r s) (is_same c d) h in
      let u = and_parts (eqb n m) (eqb r s) t.0 in
      let e = eqb-true n m u.0 in let g = eqb-true r s u.1 in let f = same_to_eq c d t.1 in cc
  same_to_eq _ _ h = cc

  same_to_eq_parts : (cs ds : Parts) → are_same cs ds ≡ true → cs ≡ ds
  same_to_eq_parts no_parts no_parts h = refl
  same_to_eq_parts (part c cs) (part d ds) h =
      let t = and_parts (is_same c d) (are_same cs ds) h in
      let e = same_to_eq c d t.0 in let f = same_to_eq_parts cs ds t.1 in cc
  same_to_eq_parts _ _ h = cc

mutual
  pub same_itself : (c : Concept) → is_same c c ≡ true
  same_itself top = refl
  same_itself bottom = refl
  same_itself (name a) = eq-eqb a a refl
  same_itself (complement c) = same_itself c
  same_itself (intersection cs) = same_parts cs
  same_itself (union cs) = same_parts cs
  same_itself (some_of r c) = rw (eq-eqb r r refl) (same_itself c)
  same_itself (all_of r c) = rw (eq-eqb r r refl) (same_itself c)
  same_itself (at_least n r c) = rw (eq-eqb n n refl, eq-eqb r r refl) (same_itself c)
  same_itself (at_most n r c) = rw (eq-eqb n n refl, eq-eqb r r refl) (same_itself c)
  same_itself (exactly n r c) = rw (eq-eqb n n refl, eq-eqb r r refl) (same_itself c)

  same_parts : (cs : Parts) → are_same cs cs ≡ true
  same_parts no_parts = refl
  same_parts (part c cs) = rw (same_itself c) (same_parts cs)

pub eq_to_same : (c d : Concept) → c ≡ d → is_same c d ≡ true
eq_to_same c d e = rw (← e) (same_itself c)
