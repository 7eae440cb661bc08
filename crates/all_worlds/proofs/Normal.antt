-- Normal forms mean the same in every world.
use Rattle.std.proofs.Common.{◌≡◌, ℕ, zero, suc, ◌+◌, ◌||◌, Bool, true, false, not, cond, List, [], ◌∷◌, ◌++◌, length}
use Rattle.std.proofs.Common.{filter}
use Rattle.std.proofs.Common.{refl, ap, subst, sym, ◌∙◌, arith}
use Rattle.std.specs.Prelude.{◌↔◌, if◌then◌else◌}
use Rattle.std.specs.List.{AllPairs, list_any, flat_map}
use Rattle.std.proofs.lemmas.List.Elements.{All-nil, All-cons, All-head, All-weaker}
use Rattle.shq_nnf.specs.Concept.{Concept, top, bottom, name, complement, intersection, union, some_of, all_of}
use Rattle.shq_nnf.specs.Concept.{at_least, at_most, exactly, Parts, no_parts, part, parts_of, part_list}
use Rattle.role_box.specs.Normal.{is_top, is_bottom, conjuncts_of, conjuncts, intersected, and_of, disjuncts_of}
use Rattle.role_box.specs.Normal.{disjuncts, united, or_of, least_form, fewer_form, most_form, more_form}
use Rattle.role_box.specs.Normal.{normal_form, negated_form, normal_forms, negated_forms}
use Rattle.all_worlds.specs.Worlds.{World, AreMany, AreAtLeast, AreAtMost, IsSuccessor, IsIn, IsInAll, IsInNone}
use Rattle.all_worlds.proofs.Stable.{stable, none_stable}

-- ---- lists of class expressions

module _ {d : Type 0} (w : World d) (x : d) where
  abbrev In : Concept → Type 0
  In c = IsIn w c x

  abbrev InAll : List Concept → Type 0
  InAll cs = IsInAll w (parts_of cs) x

  abbrev InNone : List Concept → Type 0
  InNone cs = IsInNone w (parts_of cs) x

  all_append : (cs es : List Concept) → InAll (cs ++ es) ↔ (InAll cs × InAll es)
  all_append [] es = (λ h. (tt, h), λ h. h.1)
  all_append (c ∷ cs) es =
      let rest = all_append cs es in
      (λ h. ((h.0, (rest.0 h.1).0), (rest.0 h.1).1), λ h. (h.0.0, rest.1 (h.0.1, h.1)))

  pub all_listed : (cs : Parts) → InAll (part_list cs) ↔ IsInAll w cs x
  all_listed no_parts = (λ h. h, λ h. h)
  all_listed (part c cs) = let rest = all_listed cs in (λ h. (h.0, rest.0 h.1), λ h. (h.0, rest.1 h.1))

  conjuncts_in : (c : Concept) → InAll (conjuncts_of c) ↔ In c
  conjuncts_in (intersection cs) = all_listed cs
  conjuncts_in top = (λ p. p.0, λ h. (h, tt))
  conjuncts_in bottom = (λ p. p.0, λ h. (h, tt))
  conjuncts_in (name a) = (λ p. p.0, λ h. (h, tt))
  conjuncts_in (complement c) = (λ p. p.0, λ h. (h, tt))
  conjuncts_in (union cs) = (λ p. p.0, λ h. (h, tt))
  conjuncts_in (some_of r c) = (λ p. p.0, λ h. (h, tt))
  conjuncts_in (all_of r c) = (λ p. p.0, λ h. (h, tt))
  conjuncts_in (at_least n r c) = (λ p. p.0, λ h. (h, tt))
  conjuncts_in (at_most n r c) = (λ p. p.0, λ h. (h, tt))
  conjuncts_in (exactly n r c) = (λ p. p.0, λ h. (h, tt))

  opened_in : (cs : List Concept) → InAll (flat_map conjuncts_of cs) ↔ InAll cs
  opened_in [] = (λ h. h, λ h. h)
  opened_in (c ∷ cs) =
      let both = all_append (conjuncts_of c) (flat_map conjuncts_of cs) in
      let here = conjuncts_in c in
      let rest = opened_in cs in
      (λ h. (here.0 (both.0 h).0, rest.0 (both.0 h).1), λ h. both.1 (here.1 h.0, rest.1 h.1))

  top_is : (c : Concept) → is_top c ≡ true → In c
  top_is top h = tt
  top_is _ h = cc

  bottom_is : (c : Concept) → is_bottom c ≡ true → ¬ In c
  bottom_is bottom h = λ k. k
  bottom_is _ h = cc

  abbrev no_tops : List Concept → List Concept
  no_tops cs = filter (λ c. not (is_top c)) cs

  kept_in : (cs : List Concept) → InAll (no_tops cs) ↔ InAll cs
  kept_in [] = (λ h. h, λ h. h)
  kept_in (c ∷ cs) = by (is_top c) refl (kept_in cs)
    where
      by : (b : Bool) → is_top c ≡ b → InAll (no_tops cs) ↔ InAll cs
          → InAll (cond (not (is_top c)) (c ∷ no_tops cs) (no_tops cs)) ↔ (In c × InAll cs)
      by true e rest =
          let same : cond (not (is_top c)) (c ∷ no_tops cs) (no_tops cs) ≡ no_tops cs =
          ap (λ (b : Bool). cond (not b) (c ∷ no_tops cs) (no_tops cs)) e in
          (λ h. (top_is c e, rest.0 (subst InAll same h)), λ h. subst InAll (sym same) (rest.1 h.1))
      by false e rest =
          let same : cond (not (is_top c)) (c ∷ no_tops cs) (no_tops cs) ≡ c ∷ no_tops cs =
          ap (λ (b : Bool). cond (not b) (c ∷ no_tops cs) (no_tops cs)) e in (
            λ h. let k = subst InAll same h in (k.0, rest.0 k.1),
            λ h. subst InAll (sym same) (h.0, rest.1 h.1),
          )

  with_bottom : (cs : List Concept) → list_any is_bottom cs ≡ true → ¬ InAll cs
  with_bottom [] h = cc
  with_bottom (c ∷ cs) h = by (is_bottom c) refl h (with_bottom cs)
    where
      by : (b : Bool) → is_bottom c ≡ b → (b || list_any is_bottom cs) ≡ true
          → (list_any is_bottom cs ≡ true → ¬ InAll cs) → ¬ (In c × InAll cs)
      by true e g rest = λ k. bottom_is c e k.0
      by false e g rest = λ k. rest g k.1

  intersected_in : (cs : List Concept) → In (intersected cs) ↔ InAll cs
  intersected_in [] = (λ h. h, λ h. h)
  intersected_in (c ∷ []) = (λ h. (h, tt), λ h. h.0)
  intersected_in (c ∷ e ∷ cs) = (λ h. h, λ h. h)

  pub and_in : (cs : List Concept) → In (and_of cs) ↔ InAll cs
  and_in cs =
      let it = by (list_any is_bottom (conjuncts cs)) refl in
      let kept = kept_in (flat_map conjuncts_of cs) in
      let opened = opened_in cs in
      (λ h. opened.0 (kept.0 (it.0 h)), λ h. it.1 (kept.1 (opened.1 h)))
    where
      by : (b : Bool) → list_any is_bottom (conjuncts cs) ≡ b → In (and_of cs) ↔ InAll (conjuncts cs)
      by true e =
          let same : and_of cs ≡ bottom =
          ap (λ (b : Bool). if b then bottom else intersected (conjuncts cs)) e in
          (λ h. absurd (subst In same h), λ h. absurd (with_bottom (conjuncts cs) e h))
      by false e =
          let same : and_of cs ≡ intersected (conjuncts cs) =
          ap (λ (b : Bool). if b then bottom else intersected (conjuncts cs)) e in
          let it = intersected_in (conjuncts cs) in
          (λ h. it.0 (subst In same h), λ h. subst In (sym same) (it.1 h))

  none_append : (cs es : List Concept) → InNone (cs ++ es) ↔ (InNone cs × InNone es)
  none_append [] es = (λ h. (tt, h), λ h. h.1)
  none_append (c ∷ cs) es =
      let rest = none_append cs es in
      (λ h. ((h.0, (rest.0 h.1).0), (rest.0 h.1).1), λ h. (h.0.0, rest.1 (h.0.1, h.1)))

  pub none_listed : (cs : Parts) → InNone (part_list cs) ↔ IsInNone w cs x
  none_listed no_parts = (λ h. h, λ h. h)
  none_listed (part c cs) = let rest = none_listed cs in (λ h. (h.0, rest.0 h.1), λ h. (h.0, rest.1 h.1))

  disjuncts_out : (c : Concept) → InNone (disjuncts_of c) ↔ (¬ In c)
  disjuncts_out (union cs) =
      let same = none_listed cs in (λ h k. k (same.0 h), λ h. same.1 (none_stable w cs x h))
  disjuncts_out top = (λ p. p.0, λ h. (h, tt))
  disjuncts_out bottom = (λ p. p.0, λ h. (h, tt))
  disjuncts_out (name a) = (λ p. p.0, λ h. (h, tt))
  disjuncts_out (complement c) = (λ p. p.0, λ h. (h, tt))
  disjuncts_out (intersection cs) = (λ p. p.0, λ h. (h, tt))
  disjuncts_out (some_of r c) = (λ p. p.0, λ h. (h, tt))
  disjuncts_out (all_of r c) = (λ p. p.0, λ h. (h, tt))
  disjuncts_out (at_least n r c) = (λ p. p.0, λ h. (h, tt))
  disjuncts_out (at_most n r c) = (λ p. p.0, λ h. (h, tt))
  disjuncts_out (exactly n r c) = (λ p. p.0, λ h. (h, tt))

  opened_out : (cs : List Concept) → InNone (flat_map disjuncts_of cs) ↔ InNone cs
  opened_out [] = (λ h. h, λ h. h)
  opened_out (c ∷ cs) =
      let both = none_append (disjuncts_of c) (flat_map disjuncts_of cs) in
      let here = disjuncts_out c in
      let rest = opened_out cs in
      (λ h. (here.0 (both.0 h).0, rest.0 (both.0 h).1), λ h. both.1 (here.1 h.0, rest.1 h.1))

  abbrev no_bottoms : List Concept → List Concept
  no_bottoms cs = filter (λ c. not (is_bottom c)) cs

  kept_out : (cs : List Concept) → InNone (no_bottoms cs) ↔ InNone cs
  kept_out [] = (λ h. h, λ h. h)
  kept_out (c ∷ cs) = by (is_bottom c) refl (kept_out cs)
    where
      by : (b : Bool) → is_bottom c ≡ b → InNone (no_bottoms cs) ↔ InNone cs
          → InNone (cond (not (is_bottom c)) (c ∷ no_bottoms cs) (no_bottoms cs)) ↔ ((¬ In c) × InNone cs)
      by true e rest =
          let same : cond (not (is_bottom c)) (c ∷ no_bottoms cs) (no_bottoms cs) ≡ no_bottoms cs =
          ap (λ (b : Bool). cond (not b) (c ∷ no_bottoms cs) (no_bottoms cs)) e in
          (λ h. (bottom_is c e, rest.0 (subst InNone same h)), λ h. subst InNone (sym same) (rest.1 h.1))
      by false e rest =
          let same : cond (not (is_bottom c)) (c ∷ no_bottoms cs) (no_bottoms cs) ≡ c ∷ no_bottoms cs =
          ap (λ (b : Bool). cond (not b) (c ∷ no_bottoms cs) (no_bottoms cs)) e in (
            λ h. let k = subst InNone same h in (k.0, rest.0 k.1),
            λ h. subst InNone (sym same) (h.0, rest.1 h.1),
          )

  with_top : (cs : List Concept) → list_any is_top cs ≡ true → ¬ InNone cs
  with_top [] h = cc
  with_top (c ∷ cs) h = by (is_top c) refl h (with_top cs)
    where
      by : (b : Bool) → is_top c ≡ b → (b || list_any is_top cs) ≡ true
          → (list_any is_top cs ≡ true → ¬ InNone cs) → ¬ ((¬ In c) × InNone cs)
      by true e g rest = λ k. k.0 (top_is c e)
      by false e g rest = λ k. rest g k.1

  united_out : (cs : List Concept) → (¬ In (united cs)) ↔ InNone cs
  united_out [] = (λ h. tt, λ h k. k)
  united_out (c ∷ []) = (λ h. (h, tt), λ h. h.0)
  united_out (c ∷ e ∷ cs) = (λ h. none_stable w (parts_of (c ∷ e ∷ cs)) x h, λ h k. k h)

  pub or_out : (cs : List Concept) → (¬ In (or_of cs)) ↔ InNone cs
  or_out cs =
      let it = by (list_any is_top (disjuncts cs)) refl in
      let kept = kept_out (flat_map disjuncts_of cs) in
      let opened = opened_out cs in
      (λ h. opened.0 (kept.0 (it.0 h)), λ h. it.1 (kept.1 (opened.1 h)))
    where
      by : (b : Bool) → list_any is_top (disjuncts cs) ≡ b → (¬ In (or_of cs)) ↔ InNone (disjuncts cs)
      by true e =
          let same : or_of cs ≡ top = ap (λ (b : Bool). if b then top else united (disjuncts cs)) e in
          (λ h. absurd (h (subst In (sym same) tt)), λ h. absurd (with_top (disjuncts cs) e h))
      by false e =
          let same : or_of cs ≡ united (disjuncts cs) =
          ap (λ (b : Bool). if b then top else united (disjuncts cs)) e in
          let it = united_out (disjuncts cs) in
          (λ h. it.0 (λ k. h (subst In (sym same) k)), λ h k. it.1 h (subst In same k))

  pub or_in : (cs : List Concept) → In (or_of cs) ↔ (¬ InNone cs)
  or_in cs =
      let out = or_out cs in (λ h n. out.1 n h, λ h. stable w (or_of cs) x (λ k. h (out.0 k)))

-- ---- cardinalities

-- no list of n members has the property
abbrev Fail : {d : Type 0} → ℕ → (d → Type 0) → Type 0
Fail {d} n p = (ys : List d) → ¬ AreMany p n ys

pub fail_as : {d : Type 0} (n m : ℕ) (p q : d → Type 0) → n ≡ m → ((y : d) → q y → p y) → Fail n p → Fail m q
fail_as n m p q e each h ys many =
    h ys
    (record { count = many.count ∙ sym e; distinct = many.distinct; each = All-weaker q p each ys many.each })

pub lone_is_distinct : {d : Type 0} (y : d) → AllPairs (λ y z. ¬ (y ≡ z)) (y ∷ [])
lone_is_distinct y = λ i j e before within. absurd (omega arith)

module _ {d : Type 0} (w : World d) (r : ℕ) (c not_c : Concept) (p : d → Type 0) (is : (y : d) → IsIn w c y ↔ p y)
    (isnt : (y : d) → IsIn w not_c y ↔ (¬ p y)) (x : d) where
  abbrev Successor : d → Type 0
  Successor = IsSuccessor w r x p

  abbrev Kept : d → Type 0
  Kept = IsSuccessor w r x (IsIn w c)

  abbrev NoSuccessor : Type 0
  NoSuccessor = (y : d) → w.in_role r x y ≡ true → ¬ p y

  all_outside : IsIn w (all_of r not_c) x ↔ NoSuccessor
  all_outside = (λ h y e. (isnt y).0 (h y e), λ h y e. (isnt y).1 (h y e))

  some_inside : IsIn w (some_of r c) x ↔ (¬ NoSuccessor)
  some_inside = (λ h k. h (λ y e i. k y e ((is y).0 i)), λ h k. h (λ y e i. k y e ((is y).1 i)))

  one_fails : (n : ℕ) → n ≡ 1 → NoSuccessor ↔ Fail n Successor
  one_fails n one = (none, some)
    where
      none : NoSuccessor → Fail n Successor
      none h [] many = let c : length {A = d} [] ≡ n = many.count in omega (arith, one, c)
      none h (y ∷ ys) many = let s = All-head Successor y ys many.each in h y s.0 s.1

      some : Fail n Successor → NoSuccessor
      some h y e i =
          h (y ∷ [])
          (record {
            count = omega (arith, one);
            distinct = lone_is_distinct y;
            each = All-cons Successor y [] (e, i) (All-nil Successor);
          })

  given : (n m : ℕ) → n ≡ m → Fail n Successor → Fail m Kept
  given n m e = fail_as n m Successor Kept e (λ y s. (s.0, (is y).0 s.1))

  found : (n m : ℕ) → n ≡ m → Fail n Kept → Fail m Successor
  found n m e = fail_as n m Kept Successor e (λ y s. (s.0, (is y).1 s.1))

  no_fail : ¬ Fail 0 Successor
  no_fail h =
      h []
      (record {
        count = refl;
        distinct = λ i j e before within. absurd (omega arith);
        each = All-nil Successor;
      })

  pub least_in : (n : ℕ) → IsIn w (least_form n r c) x ↔ AreAtLeast n Successor
  least_in zero = (λ h. no_fail, λ h. tt)
  least_in (suc zero) =
      let one = one_fails 1 refl in
      (λ h f. some_inside.0 h (one.1 f), λ h. some_inside.1 (λ n. h (one.0 n)))
  least_in (suc (suc n)) = (
    λ h f. h (given (suc (suc n)) (suc (suc n)) refl f),
    λ h f. h (found (suc (suc n)) (suc (suc n)) refl f),
  )

  fewer_in : (n : ℕ) → IsIn w (fewer_form n r c not_c) x ↔ (¬ AreAtLeast n Successor)
  fewer_in zero = (λ h. absurd h, λ h. h no_fail)
  fewer_in (suc zero) =
      let one = one_fails 1 refl in
      (λ h k. k (one.0 (all_outside.0 h)), λ h. all_outside.1 (one.1 (λ ys many. h (λ f. f ys many))))
  fewer_in (suc (suc n)) = (
    λ h k. k (found (suc n + 1) (suc (suc n)) (omega arith) h),
    λ h. given (suc (suc n)) (suc n + 1) (omega arith) (λ ys many. h (λ f. f ys many)),
  )

  most_in : (n : ℕ) → IsIn w (most_form n r c not_c) x ↔ AreAtMost n Successor
  most_in zero =
      let one = one_fails (0 + 1) (omega arith) in (λ h. one.0 (all_outside.0 h), λ h. all_outside.1 (one.1 h))
  most_in (suc n) = (found (suc n + 1) (suc n + 1) refl, given (suc n + 1) (suc n + 1) refl)

  more_in : (n : ℕ) → IsIn w (more_form n r c) x ↔ (¬ AreAtMost n Successor)
  more_in zero =
      let one = one_fails (0 + 1) (omega arith) in
      (λ h f. some_inside.0 h (one.1 f), λ h. some_inside.1 (λ n. h (one.0 n)))
  more_in (suc n) = (
    λ h f. h (given (suc n + 1) (suc (suc n)) (omega arith) f),
    λ h f. h (found (suc (suc n)) (suc n + 1) (omega arith) f),
  )

  exactly_in : (n : ℕ) → IsIn w (and_of (least_form n r c ∷ most_form n r c not_c ∷ [])) x
      ↔ (AreAtLeast n Successor × AreAtMost n Successor)
  exactly_in n =
      let both = and_in w x (least_form n r c ∷ most_form n r c not_c ∷ []) in
      let least = least_in n in
      let most = most_in n in (
        λ h. let k = both.0 h in (least.0 k.0, most.0 k.1.0),
        λ h. both.1 (least.1 h.0, (most.1 h.1, tt)),
      )

  not_exactly_in : (n : ℕ) → IsIn w (or_of (fewer_form n r c not_c ∷ more_form n r c ∷ [])) x
      ↔ (¬ (AreAtLeast n Successor × AreAtMost n Successor))
  not_exactly_in n =
      let one = or_in w x (fewer_form n r c not_c ∷ more_form n r c ∷ []) in
      let fewer = fewer_in n in
      let more = more_in n in (
        λ h k. one.0 h (λ f. fewer.0 f k.0, (λ m. more.0 m k.1, tt)),
        λ h.
            one.1
            (λ none.
            h (
              λ fail. none.0 (fewer.1 (λ least. least fail)),
              λ ys many. none.1.0 (more.1 (λ most. most ys many)),
            )),
      )

-- ---- any class expression

module _ {d : Type 0} (w : World d) where
  mutual
    pub normal_in : (c : Concept) (x : d) → IsIn w (normal_form c) x ↔ IsIn w c x
    normal_in top x = (λ h. h, λ h. h)
    normal_in bottom x = (λ h. h, λ h. h)
    normal_in (name a) x = (λ h. h, λ h. h)
    normal_in (complement c) x = negated_in c x
    normal_in (intersection cs) x =
        let both = and_in w x (normal_forms cs) in
        let all = normal_all cs x in
        (λ h. all.0 (both.0 h), λ h. both.1 (all.1 h))
    normal_in (union cs) x =
        let one = or_in w x (normal_forms cs) in
        let none = normal_none cs x in
        (λ h n. one.0 h (none.1 n), λ h. one.1 (λ n. h (none.0 n)))
    normal_in (some_of r c) x = (
      λ h k. h (λ y e i. k y e ((normal_in c y).0 i)),
      λ h k. h (λ y e i. k y e ((normal_in c y).1 i)),
    )
    normal_in (all_of r c) x = (λ h y e. (normal_in c y).0 (h y e), λ h y e. (normal_in c y).1 (h y e))
    normal_in (at_least n r c) x =
        least_in w r (normal_form c) (negated_form c) (IsIn w c) (λ y. normal_in c y) (λ y. negated_in c y) x n
    normal_in (at_most n r c) x =
        most_in w r (normal_form c) (negated_form c) (IsIn w c) (λ y. normal_in c y) (λ y. negated_in c y) x n
    normal_in (exactly n r c) x =
        exactly_in w r (normal_form c) (negated_form c) (IsIn w c) (λ y. normal_in c y) (λ y. negated_in c y) x n

    pub negated_in : (c : Concept) (x : d) → IsIn w (negated_form c) x ↔ (¬ IsIn w c x)
    negated_in top x = (λ h. absurd h, λ h. h tt)
    negated_in bottom x = (λ h k. k, λ h. tt)
    negated_in (name a) x = (λ h. h, λ h. h)
    negated_in (complement c) x =
        let it = normal_in c x in (λ h k. k (it.0 h), λ h. it.1 (stable w c x h))
    negated_in (intersection cs) x =
        let one = or_in w x (negated_forms cs) in
        let none = negated_none cs x in
        (λ h k. one.0 h (none.1 k), λ h. one.1 (λ n. h (none.0 n)))
    negated_in (union cs) x =
        let both = and_in w x (negated_forms cs) in
        let all = negated_all cs x in
        (λ h k. k (all.0 (both.0 h)), λ h. both.1 (all.1 (none_stable w cs x h)))
    negated_in (some_of r c) x = (
      λ h k. k (λ y e i. (negated_in c y).0 (h y e) i),
      λ h y e. (negated_in c y).1 (λ i. h (λ f. f y e i)),
    )
    negated_in (all_of r c) x = (
      λ h k. h (λ y e n. (negated_in c y).0 n (k y e)),
      λ h k. h (λ y e. stable w c y (λ n. k y e ((negated_in c y).1 n))),
    )
    negated_in (at_least n r c) x =
        fewer_in w r (normal_form c) (negated_form c) (IsIn w c) (λ y. normal_in c y) (λ y. negated_in c y) x n
    negated_in (at_most n r c) x =
        more_in w r (normal_form c) (negated_form c) (IsIn w c) (λ y. normal_in c y) (λ y. negated_in c y) x n
    negated_in (exactly n r c) x =
        not_exactly_in w r (normal_form c) (negated_form c) (IsIn w c) (λ y. normal_in c y) (λ y. negated_in c y) x n

    normal_all : (cs : Parts) (x : d) → IsInAll w (parts_of (normal_forms cs)) x ↔ IsInAll w cs x
    normal_all no_parts x = (λ h. h, λ h. h)
    normal_all (part c cs) x =
        let here = normal_in c x in
        let rest = normal_all cs x in
        (λ h. (here.0 h.0, rest.0 h.1), λ h. (here.1 h.0, rest.1 h.1))

    normal_none : (cs : Parts) (x : d) → IsInNone w (parts_of (normal_forms cs)) x ↔ IsInNone w cs x
    normal_none no_parts x = (λ h. h, λ h. h)
    normal_none (part c cs) x =
        let here = normal_in c x in
        let rest = normal_none cs x in
        (λ h. (λ i. h.0 (here.1 i), rest.0 h.1), λ h. (λ i. h.0 (here.0 i), rest.1 h.1))

    negated_none : (cs : Parts) (x : d) → IsInNone w (parts_of (negated_forms cs)) x ↔ IsInAll w cs x
    negated_none no_parts x = (λ h. h, λ h. h)
    negated_none (part c cs) x =
        let here = negated_in c x in
        let rest = negated_none cs x in (
          λ h. (stable w c x (λ n. h.0 (here.1 n)), rest.0 h.1),
          λ h. (λ n. here.0 n h.0, rest.1 h.1),
        )

    negated_all : (cs : Parts) (x : d) → IsInAll w (parts_of (negated_forms cs)) x ↔ IsInNone w cs x
    negated_all no_parts x = (λ h. h, λ h. h)
    negated_all (part c cs) x =
        let here = negated_in c x in
        let rest = negated_all cs x in
        (λ h. (here.0 h.0, rest.0 h.1), λ h. (here.1 h.0, rest.1 h.1))
