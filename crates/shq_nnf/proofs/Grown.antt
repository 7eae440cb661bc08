-- A table with one more shape is a table, and so are the first shapes of one.
use Rattle.std.proofs.Common.{◌≡◌, ℕ, ◌+◌, ◌<◌, ltb, leb, Bool, true, List, [], ◌∷◌, ◌++◌, length, take, min, refl, ap}
use Rattle.std.proofs.Common.{subst, sym, ◌∙◌, inl, inr, ◌⊎◌, arith, length-append}
use Rattle.std.specs.List.{list_all}
use Rattle.std.proofs.lemmas.Bool.{ltb-true, and_parts, and_from, cases_lt}
use Rattle.std.proofs.lemmas.List.{get_or_append_left, get_or_push, get_or-take, length-take}
use Rattle.calculus_specs.specs.Shape.{Shape, shape_of, has_parts_below, is_conjunct, is_disjunct, is_normal, IsTable}
use Rattle.calculus_specs.specs.Shape.Shape.{top, bottom, name, not_name, intersection, union, some_of, all_of}
use Rattle.calculus_specs.specs.Shape.Shape.{at_least, at_most}

-- ---- a shape that is normal over one table is so over another with the same shapes below a bound of its parts

module _ (t u : List Shape) (n : ℕ) (agree : (c : ℕ) → c < n → shape_of t c ≡ shape_of u c) (test : Shape → Bool) where
  all_agree : (cs : List ℕ) → list_all (λ c. ltb c n) cs ≡ true → list_all (λ c. test (shape_of t c)) cs ≡ true
      → list_all (λ c. test (shape_of u c)) cs ≡ true
  all_agree [] below h = refl
  all_agree (c ∷ cs) below h =
      let b = and_parts (ltb c n) (list_all (λ d. ltb d n) cs) below in
      let p = and_parts (test (shape_of t c)) (list_all (λ d. test (shape_of t d)) cs) h in
      let same : shape_of t c ≡ shape_of u c = agree c (ltb-true c n b.0) in
      and_from (test (shape_of u c)) (list_all (λ d. test (shape_of u d)) cs) (sym (ap test same) ∙ p.0)
      (all_agree cs b.1 p.1)

pub normal_agree : (t u : List Shape) (n : ℕ) (s : Shape) → ((c : ℕ) → c < n → shape_of t c ≡ shape_of u c)
    → has_parts_below n s ≡ true → is_normal t s ≡ true → is_normal u s ≡ true
normal_agree t u n top agree below h = refl
normal_agree t u n bottom agree below h = refl
normal_agree t u n (name a) agree below h = refl
normal_agree t u n (not_name a) agree below h = refl
normal_agree t u n (intersection cs) agree below h =
    let p = and_parts (leb 2 (length cs)) (list_all (λ c. is_conjunct (shape_of t c)) cs) h in
    and_from (leb 2 (length cs)) (list_all (λ c. is_conjunct (shape_of u c)) cs) p.0
    (all_agree t u n agree is_conjunct cs below p.1)
normal_agree t u n (union cs) agree below h =
    let p = and_parts (leb 2 (length cs)) (list_all (λ c. is_disjunct (shape_of t c)) cs) h in
    and_from (leb 2 (length cs)) (list_all (λ c. is_disjunct (shape_of u c)) cs) p.0
    (all_agree t u n agree is_disjunct cs below p.1)
normal_agree t u n (some_of r c) agree below h = refl
normal_agree t u n (all_of r c) agree below h = refl
normal_agree t u n (at_least m r c) agree below h = h
normal_agree t u n (at_most m r c) agree below h = h

-- ---- one shape more

module _ (t : List Shape) (s : Shape) where
  abbrev more : List Shape
  more = t ++ s ∷ []

  more_length : length more ≡ length t + 1
  more_length = length-append t (s ∷ [])

  old_shape : (c : ℕ) → c < length t → shape_of more c ≡ shape_of t c
  old_shape c lt = get_or_append_left t (s ∷ []) top c lt

  last_shape : shape_of more (length t) ≡ s
  last_shape = get_or_push t s top (length t) refl

  place : (c : ℕ) → c < length more → (c < length t) ⊎ (c ≡ length t)
  place c lt = elim (cases_lt c (length t)) [ inl less ↦ inl less | inr rest ↦ inr (omega (arith, more_length)) ]

  at_each : (P : ℕ → Shape → Type 0) → ((c : ℕ) → c < length t → P c (shape_of t c)) → P (length t) s → (c : ℕ)
      → c < length more → P c (shape_of more c)
  at_each P old new c lt = elim (place c lt) [
    | inl less ↦ subst (P c) (sym (old_shape c less)) (old c less)
    | inr last ↦ subst (λ k. P k (shape_of more k)) (sym last) (subst (P (length t)) (sym last_shape) new)
  ]

  table_with : IsTable t → has_parts_below (length t) s ≡ true → is_normal t s ≡ true
      → ((c : ℕ) → c < length t → shape_of t c ≡ s → ⊥) → IsTable more
  table_with good below normal absent = record {
    has_top = omega (arith, good.has_top, more_length);
    begins_with_top = old_shape 0 good.has_top ∙ good.begins_with_top;
    parts_below = at_each (λ c f. has_parts_below c f ≡ true) good.parts_below below;
    are_normal = at_each (λ c f. is_normal more f ≡ true)
        (λ c lt. normal_agree t more c (shape_of t c) (λ d less. sym (old_shape d (omega arith)))
        (good.parts_below c lt) (good.are_normal c lt))
        (normal_agree t more (length t) s (λ d less. sym (old_shape d less)) below normal);
    are_distinct = λ c d lt mt e. elim (place c lt) [
      | inl less ↦ elim (place d mt) [
        | inl under ↦ good.are_distinct c d less under (sym (old_shape c less) ∙ e ∙ old_shape d under)
        | inr last ↦ absurd (absent c less (sym (old_shape c less) ∙ e ∙ ap (shape_of more) last ∙ last_shape))
      ]
      | inr here ↦ elim (place d mt) [
        | inl under ↦ absurd (absent d under (sym (old_shape d under) ∙ sym e ∙ ap (shape_of more) here ∙ last_shape))
        | inr last ↦ here ∙ sym last
      ]
    ];
  }

pub table_with_new : (t : List Shape) (s : Shape) → IsTable t → has_parts_below (length t) s ≡ true
    → is_normal t s ≡ true → ((c : ℕ) → c < length t → shape_of t c ≡ s → ⊥) → IsTable (t ++ s ∷ [])
table_with_new t s = table_with t s

-- ---- the first shapes

pub table_taken : (n : ℕ) (t : List Shape) → 0 < n → IsTable t → IsTable (take n t)
table_taken n t some good =
    let front = take n t in
    let long : length front ≡ min n (length t) = length-take n t in
    let same : (c : ℕ) → c < length front → shape_of front c ≡ shape_of t c =
    λ c lt. get_or-take n t c top (omega (arith, long)) in
    let inside : (c : ℕ) → c < length front → c < length t = λ c lt. omega (arith, long) in
    record {
      has_top = omega (arith, long, good.has_top);
      begins_with_top = same 0 (omega (arith, long, good.has_top)) ∙ good.begins_with_top;
      parts_below = λ c lt. ap (has_parts_below c) (same c lt) ∙ good.parts_below c (inside c lt);
      are_normal =
          λ c lt. ap (is_normal front) (same c lt)
          ∙ normal_agree t front c (shape_of t c) (λ d less. sym (same d (omega arith)))
          (good.parts_below c (inside c lt)) (good.are_normal c (inside c lt));
      are_distinct = λ c d lt mt e. good.are_distinct c d (inside c lt) (inside d mt) (sym (same c lt) ∙ e ∙ same d mt);
    }
