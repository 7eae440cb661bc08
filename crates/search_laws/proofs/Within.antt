-- What the computed list of the closure holds.
use Rattle.std.proofs.Common.{◌≡◌, ℕ, zero, suc, ◌<◌, ◌≤◌, ◌⊎◌, eqb, true, false, List, [], ◌∷◌, ◌++◌, map, refl, ap}
use Rattle.std.proofs.Common.{sym, subst, arith, inl, inr}
use Rattle.std.specs.List.{list_any, flat_map, Contains, IsDistinct, AllByRecursion}
use Rattle.std.proofs.lemmas.Bool.{cases_Bool, or_cases, or_left, or_right, eqb-true, false_from_ne_true}
use Rattle.shq_terms.specs.Concept.{Concept, top, bottom, name, complement, intersection, union, some_of, all_of}
use Rattle.shq_terms.specs.Concept.{at_least, at_most, exactly, Parts, no_parts, part, part_list}
use Rattle.calculus_specs.specs.Normal.{negated_form}
use Rattle.calculus_specs.specs.Same.{is_same}
use Rattle.calculus_specs.proofs.Same.{same_to_eq, eq_to_same}
use Rattle.calculus_specs.specs.Depth.{role_depth, role_depth_parts}
use Rattle.calculus_specs.proofs.Depth.{negated_depth}
use Rattle.search_laws.specs.ComputedClosure.{given_by, given_by_each, given, each_once}

-- ---- members of lists

abbrev pub Among : {X : Type 0} → X → List X → Type 0
Among x [] = ⊥
Among x (y ∷ ys) = (x ≡ y) ⊎ Among x ys

pub among_left : {X : Type 0} (x : X) (xs ys : List X) → Among x xs → Among x (xs ++ ys)
among_left x [] ys h = absurd h
among_left x (y ∷ xs) ys h = elim h [ inl e ↦ inl e | inr later ↦ inr (among_left x xs ys later) ]

pub among_right : {X : Type 0} (x : X) (xs ys : List X) → Among x ys → Among x (xs ++ ys)
among_right x [] ys h = h
among_right x (y ∷ xs) ys h = inr (among_right x xs ys h)

pub among_either : {X : Type 0} (x : X) (xs ys : List X) → Among x (xs ++ ys) → Among x xs ⊎ Among x ys
among_either x [] ys h = inr h
among_either x (y ∷ xs) ys h = elim h [
  | inl e ↦ inl (inl e)
  | inr later ↦ elim (among_either x xs ys later) [ inl l ↦ inl (inr l) | inr r ↦ inr r ]
]

pub among_map : {X Y : Type 0} (f : X → Y) (x : X) (xs : List X) → Among x xs → Among (f x) (map f xs)
among_map f x [] h = absurd h
among_map f x (y ∷ xs) h = elim h [ inl e ↦ inl (ap f e) | inr later ↦ inr (among_map f x xs later) ]

pub map_among : {X Y : Type 0} (f : X → Y) (y : Y) (xs : List X) → Among y (map f xs) → (x : X) × Among x xs × (y ≡ f x)
map_among f y [] h = absurd h
map_among f y (x ∷ xs) h = elim h [
  | inl e ↦ (x, inl refl, e)
  | inr later ↦ let r = map_among f y xs later in (r.0, inr r.1, r.2)
]

pub among_flat : {X Y : Type 0} (f : X → List Y) (x : X) (y : Y) (xs : List X) → Among x xs → Among y (f x)
    → Among y (flat_map f xs)
among_flat f x y [] h g = absurd h
among_flat f x y (z ∷ xs) h g = elim h [
  | inl e ↦ among_left y (f z) (flat_map f xs) (subst (λ v. Among y (f v)) e g)
  | inr later ↦ among_right y (f z) (flat_map f xs) (among_flat f x y xs later g)
]

pub flat_among : {X Y : Type 0} (f : X → List Y) (y : Y) (xs : List X) → Among y (flat_map f xs)
    → (x : X) × Among x xs × Among y (f x)
flat_among f y [] h = absurd h
flat_among f y (x ∷ xs) h = elim (among_either y (f x) (flat_map f xs) h) [
  | inl here ↦ (x, inl refl, here)
  | inr later ↦ let r = flat_among f y xs later in (r.0, inr r.1, r.2)
]

pub among_contained : {X : Type 0} (x : X) (xs : List X) → Contains xs x → Among x xs
among_contained x [] h = absurd (omega (arith, h.1))
among_contained x (y ∷ xs) (zero, lt, is) = inl (sym is)
among_contained x (y ∷ xs) (suc k, lt, is) = inr (among_contained x xs (k, omega arith, is))

pub contained_among : {X : Type 0} (x : X) (xs : List X) → Among x xs → Contains xs x
contained_among x [] h = absurd h
contained_among x (y ∷ xs) h = elim h [
  | inl e ↦ (0, omega arith, sym e)
  | inr later ↦ let r = contained_among x xs later in (suc r.0, omega (arith, r.1), r.2)
]

pub same_among : (c : Concept) (cs : List Concept) → Among c cs → list_any (is_same c) cs ≡ true
same_among c [] h = absurd h
same_among c (d ∷ cs) h = elim h [
  | inl e ↦ or_left (is_same c d) (list_any (is_same c) cs) (eq_to_same c d e)
  | inr later ↦ or_right (is_same c d) (list_any (is_same c) cs) (same_among c cs later)
]

pub among_same : (c : Concept) (cs : List Concept) → list_any (is_same c) cs ≡ true → Among c cs
among_same c [] h = cc
among_same c (d ∷ cs) h = elim (or_cases (is_same c d) (list_any (is_same c) cs) h)
    [ inl here ↦ inl (same_to_eq c d here) | inr later ↦ inr (among_same c cs later) ]

pub number_among : (t : ℕ) (ts : List ℕ) → list_any (eqb t) ts ≡ true → Among t ts
number_among t [] h = cc
number_among t (s ∷ ts) h = elim (or_cases (eqb t s) (list_any (eqb t) ts) h)
    [ inl here ↦ inl (eqb-true t s here) | inr later ↦ inr (number_among t ts later) ]

-- ---- each once

pub once_has : (c : Concept) (cs : List Concept) → Among c cs → Among c (each_once cs)
once_has c [] h = absurd h
once_has c (d ∷ cs) h = elim (cases_Bool (list_any (is_same d) cs)) [
  | inl again ↦ rw again (once_has c cs
      (elim h [ inl e ↦ subst (λ (k : Concept). Among k cs) (sym e) (among_same d cs again) | inr later ↦ later ]))
  | inr last ↦ rw last (elim h [ inl e ↦ inl e | inr later ↦ inr (once_has c cs later) ])
]

pub once_only : (c : Concept) (cs : List Concept) → Among c (each_once cs) → Among c cs
once_only c [] h = absurd h
once_only c (d ∷ cs) h = elim (cases_Bool (list_any (is_same d) cs)) [
  | inl again ↦ inr (once_only c cs (rw again at h))
  | inr last ↦ elim (rw last at h) [ inl e ↦ inl e | inr later ↦ inr (once_only c cs later) ]
]

other_than : (c : Concept) (cs : List Concept) → ((d : Concept) → Among d cs → ¬ (c ≡ d))
    → AllByRecursion (λ d. is_same c d ≡ false) cs
other_than c [] h = tt
other_than c (d ∷ cs) h =
    (false_from_ne_true (is_same c d) (λ k. h d (inl refl) (same_to_eq c d k)), other_than c cs (λ e m. h e (inr m)))

pub once_distinct : (cs : List Concept) → IsDistinct is_same (each_once cs)
unfolding IsDistinct
once_distinct [] = tt
once_distinct (c ∷ cs) = elim (cases_Bool (list_any (is_same c) cs)) [
  | inl again ↦ rw again (once_distinct cs)
  | inr last ↦ rw last (
    other_than c (each_once cs)
        (λ d m e. (let k : list_any (is_same c) cs ≡ true =
        same_among c cs (subst (λ (v : Concept). Among v cs) (sym e) (once_only d cs m)) in
        cc)),
    once_distinct cs,
  )
]

-- ---- what a concept gives

module _ (ts : List ℕ) where
  -- a rule leads from one concept of the closure to another
  abbrev pub Gives : Concept → Concept → Type 0
  Gives (intersection cs) y = Among y (part_list cs)
  Gives (union cs) y = Among y (part_list cs)
  Gives (some_of r c) y = y ≡ c
  Gives (all_of r c) y = (y ≡ c) ⊎ ((t : ℕ) × Among t ts × (y ≡ all_of t c))
  Gives (at_least n r c) y = y ≡ c
  Gives (at_most n r c) y = (y ≡ c) ⊎ (y ≡ negated_form c)
  Gives top y = ⊥
  Gives bottom y = ⊥
  Gives (name a) y = ⊥
  Gives (complement c) y = ⊥
  Gives (exactly n r c) y = ⊥

  -- the list has what its members give
  abbrev pub IsShut : List Concept → Type 0
  IsShut cs = (x y : Concept) → Among x cs → Gives x y → Among y cs

  pub given_itself : (deeper : Concept → List Concept) (c : Concept) → Among c (given_by deeper ts c)
  given_itself deeper top = inl refl
  given_itself deeper bottom = inl refl
  given_itself deeper (name a) = inl refl
  given_itself deeper (complement c) = inl refl
  given_itself deeper (intersection cs) = inl refl
  given_itself deeper (union cs) = inl refl
  given_itself deeper (some_of r c) = inl refl
  given_itself deeper (all_of r c) = inl refl
  given_itself deeper (at_least n r c) = inl refl
  given_itself deeper (at_most n r c) = inl refl
  given_itself deeper (exactly n r c) = inl refl

  part_given : (deeper : Concept → List Concept) (cs : Parts) (y : Concept) → Among y (part_list cs)
      → Among y (given_by_each deeper ts cs)
  part_given deeper no_parts y h = absurd h
  part_given deeper (part c cs) y h = elim h [
    | inl e ↦
        among_left y (given_by deeper ts c) (given_by_each deeper ts cs)
        (subst (λ (k : Concept). Among k (given_by deeper ts c)) (sym e) (given_itself deeper c))
    | inr later ↦ among_right y (given_by deeper ts c) (given_by_each deeper ts cs) (part_given deeper cs y later)
  ]

  module _ (deeper : Concept → List Concept) (bound : ℕ)
      (itself : (c : Concept) → role_depth c < bound → Among c (deeper c))
      (shut : (c : Concept) → role_depth c < bound → IsShut (deeper c)) where
    alone : (c x y : Concept) → ((z : Concept) → ¬ Gives c z) → Among x (c ∷ []) → Gives x y → Among y (c ∷ [])
    alone c x y none h g =
        elim h [ inl e ↦ absurd (none y (subst (λ (k : Concept). Gives k y) e g)) | inr later ↦ absurd later ]

    -- the first gives what stands after it, and that is shut
    headed : (c : Concept) (cs : List Concept) → ((y : Concept) → Gives c y → Among y cs) → IsShut cs → IsShut (c ∷ cs)
    headed c cs first rest x y h g =
        elim h [ inl e ↦ inr (first y (subst (λ (k : Concept). Gives k y) e g)) | inr later ↦ inr (rest x y later g) ]

    both_shut : (cs ds : List Concept) → IsShut cs → IsShut ds → IsShut (cs ++ ds)
    both_shut cs ds s t x y h g = elim (among_either x cs ds h)
        [ inl l ↦ among_left y cs ds (s x y l g) | inr r ↦ among_right y cs ds (t x y r g) ]

    carried_shut : (c : Concept) → role_depth c < bound → IsShut (map (λ t. all_of t c) ts ++ deeper c)
    carried_shut c lt x y h g = elim (among_either x (map (λ t. all_of t c) ts) (deeper c) h) [
      | inr r ↦ among_right y (map (λ t. all_of t c) ts) (deeper c) (shut c lt x y r g)
      | inl l ↦ let m = map_among (λ t. all_of t c) x ts l in all_gives m.0 (subst (λ (k : Concept). Gives k y) m.2 g)
    ]
      where
        all_gives : (s : ℕ) → Gives (all_of s c) y → Among y (map (λ t. all_of t c) ts ++ deeper c)
        all_gives s k = elim k [
          | inl e ↦
              among_right y (map (λ t. all_of t c) ts) (deeper c)
              (subst (λ (v : Concept). Among v (deeper c)) (sym e) (itself c lt))
          | inr t ↦
              among_left y (map (λ u. all_of u c) ts) (deeper c)
              (subst (λ (v : Concept). Among v (map (λ u. all_of u c) ts)) (sym t.2)
              (among_map (λ u. all_of u c) t.0 ts t.1))
        ]

    all_first : (r : ℕ) (c : Concept) → role_depth c < bound → (y : Concept) → Gives (all_of r c) y
        → Among y (map (λ t. all_of t c) ts ++ deeper c)
    all_first r c lt y k = elim k [
      | inl e ↦
          among_right y (map (λ t. all_of t c) ts) (deeper c)
          (subst (λ (v : Concept). Among v (deeper c)) (sym e) (itself c lt))
      | inr t ↦
          among_left y (map (λ u. all_of u c) ts) (deeper c)
          (subst (λ (v : Concept). Among v (map (λ u. all_of u c) ts)) (sym t.2)
          (among_map (λ u. all_of u c) t.0 ts t.1))
    ]

    most_first : (n r : ℕ) (c : Concept) → role_depth c < bound → (y : Concept) → Gives (at_most n r c) y
        → Among y (deeper c ++ deeper (negated_form c))
    most_first n r c lt y k = elim k [
      | inl e ↦
          among_left y (deeper c) (deeper (negated_form c))
          (subst (λ (v : Concept). Among v (deeper c)) (sym e) (itself c lt))
      | inr e ↦
          among_right y (deeper c) (deeper (negated_form c))
          (subst (λ (v : Concept). Among v (deeper (negated_form c))) (sym e)
          (itself (negated_form c) (omega (arith, negated_depth c))))
    ]

    mutual
      pub given_shut : (c : Concept) → role_depth c ≤ bound → IsShut (given_by deeper ts c)
      given_shut top le = λ x y h g. alone top x y (λ z k. k) h g
      given_shut bottom le = λ x y h g. alone bottom x y (λ z k. k) h g
      given_shut (name a) le = λ x y h g. alone (name a) x y (λ z k. k) h g
      given_shut (complement c) le = λ x y h g. alone (complement c) x y (λ z k. k) h g
      given_shut (intersection cs) le =
          headed (intersection cs) (given_by_each deeper ts cs) (part_given deeper cs) (each_shut cs le)
      given_shut (union cs) le = headed (union cs) (given_by_each deeper ts cs) (part_given deeper cs) (each_shut cs le)
      given_shut (some_of r c) le =
          headed (some_of r c) (deeper c)
          (λ y e. subst (λ (v : Concept). Among v (deeper c)) (sym e) (itself c (omega (arith, le))))
          (shut c (omega (arith, le)))
      given_shut (all_of r c) le =
          headed (all_of r c) (map (λ t. all_of t c) ts ++ deeper c) (all_first r c (omega (arith, le)))
          (carried_shut c (omega (arith, le)))
      given_shut (at_least n r c) le =
          headed (at_least n r c) (deeper c)
          (λ y e. subst (λ (v : Concept). Among v (deeper c)) (sym e) (itself c (omega (arith, le))))
          (shut c (omega (arith, le)))
      given_shut (at_most n r c) le =
          headed (at_most n r c) (deeper c ++ deeper (negated_form c)) (most_first n r c (omega (arith, le)))
          (both_shut (deeper c) (deeper (negated_form c)) (shut c (omega (arith, le)))
          (shut (negated_form c) (omega (arith, le, negated_depth c))))
      given_shut (exactly n r c) le = λ x y h g. alone (exactly n r c) x y (λ z k. k) h g

      each_shut : (cs : Parts) → role_depth_parts cs ≤ bound → IsShut (given_by_each deeper ts cs)
      each_shut no_parts le = λ x y h g. absurd h
      each_shut (part c cs) le =
          both_shut (given_by deeper ts c) (given_by_each deeper ts cs) (given_shut c (omega (arith, le)))
          (each_shut cs (omega (arith, le)))

  -- ---- with all fillers

  pub itself_given : (n : ℕ) (c : Concept) → Among c (given ts n c)
  itself_given zero c = given_itself (λ e. []) c
  itself_given (suc n) c = given_itself (given ts n) c

  pub all_shut : (n : ℕ) (c : Concept) → role_depth c ≤ n → IsShut (given ts n c)
  all_shut zero c le = given_shut (λ e. []) 0 (λ d lt. absurd (omega arith)) (λ d lt. absurd (omega arith)) c le
  all_shut (suc n) c le =
      given_shut (given ts n) (suc n) (λ d lt. itself_given n d) (λ d lt. all_shut n d (omega (arith, lt))) c le
