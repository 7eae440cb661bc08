-- The numbers of a range that pass a test.
use Rattle.std.proofs.Common.{◌≡◌, ℕ, zero, suc, ◌+◌, ◌-◌, ◌<◌, ◌≤◌, ◌&&◌, ◌||◌, Bool, true, false, cond, List, [], ◌∷◌}
use Rattle.std.proofs.Common.{◌++◌, length, get_or, refl, sym, ap, subst, ◌∙◌, arith, inl, inr, eq-eqb}
use Rattle.std.specs.Prelude.{nat_eq, nat_le, nat_lt}
use Rattle.std.specs.List.{list_any}
use Rattle.std.specs.Ordering.{nat_cmp, ordering_then}
use Rattle.std.specs.Cmp.{nat_cmp_total}
use Rattle.std.specs.Cmp.Lexicographic.{slice_cmp}
use Rattle.std.specs.declared.cmp.Ordering.{Ordering}
use Rattle.std.specs.declared.cmp.Ordering.TheVariants.{Less, Greater}
use Rattle.std.proofs.lemmas.Bool.{ne_eqb, cases_order, cases_Bool, false≢true, le-leb, lt-leb, lt-ltb}
use Rattle.std.proofs.lemmas.Cmp.{tied_itself}
use Rattle.std.proofs.Math.Bool.{and-false}
use Rattle.lane_sieve.specs.Sets.{passing}

-- ---- which numbers are in the list

in_more : (b : Bool) (n q : ℕ) (rest : List ℕ)
    → list_any (λ y. nat_eq y q) (cond b (n ∷ rest) rest) ≡ ((b && nat_eq n q) || list_any (λ y. nat_eq y q) rest)
in_more true n q rest = refl
in_more false n q rest = refl

at_first : (p : ℕ → Bool) (a n q : ℕ) → a ≡ q
    → ((p a && nat_eq a q) || (p q && (nat_le (a + 1) q && nat_lt q (a + 1 + n))))
    ≡ (p q && (nat_le a q && nat_lt q (a + suc n)))
at_first p a n q e =
    rw
    (eq-eqb a q e, lt-leb (a + 1) q (omega arith), le-leb a q (omega arith), lt-ltb q (a + suc n) (omega arith), ap p e)
    (elim (p q) as (λ b. ((b && true) || (b && false)) ≡ (b && true)) [ true ↦ refl | false ↦ refl ])

above_first : (p : ℕ → Bool) (a n q : ℕ) → a < q
    → ((p a && nat_eq a q) || (p q && (nat_le (a + 1) q && nat_lt q (a + 1 + n))))
    ≡ (p q && (nat_le a q && nat_lt q (a + suc n)))
above_first p a n q lt =
    let e : a + 1 + n ≡ a + suc n = omega arith in
    rw (ne_eqb a q (omega arith), le-leb (a + 1) q (omega arith), le-leb a q (omega arith), and-false (p a), e) refl

below_first : (p : ℕ → Bool) (a n q : ℕ) → q < a
    → ((p a && nat_eq a q) || (p q && (nat_le (a + 1) q && nat_lt q (a + 1 + n))))
    ≡ (p q && (nat_le a q && nat_lt q (a + suc n)))
below_first p a n q gt =
    rw (ne_eqb a q (omega arith), lt-leb (a + 1) q (omega arith), lt-leb a q (omega arith), and-false (p a)) refl

pub any-passing : (p : ℕ → Bool) (a n q : ℕ)
    → list_any (λ y. nat_eq y q) (passing p a n) ≡ (p q && (nat_le a q && nat_lt q (a + n)))
unfolding passing
any-passing p a zero q =
    elim (cases_order a q) [
      | inl e ↦ rw (le-leb a q (omega arith), le-ltb' q a (omega arith)) (sym (and-false (p q)))
      | inr r ↦ elim r [
        | inl lt ↦ rw (le-leb a q (omega arith), le-ltb' q a (omega arith)) (sym (and-false (p q)))
        | inr gt ↦ rw (lt-leb a q gt) (sym (and-false (p q)))
      ]
    ]
  where
    le-ltb' : (q a : ℕ) → a ≤ q → nat_lt q (a + 0) ≡ false
    le-ltb' q a h = grind arith
any-passing p a (suc n) q =
    in_more (p a) a q (passing p (a + 1) n) ∙ ap (λ (x : Bool). (p a && nat_eq a q) || x) (any-passing p (a + 1) n q)
    ∙ (elim (cases_order a q) [
      | inl e ↦ at_first p a n q e
      | inr r ↦ elim r [ inl lt ↦ above_first p a n q lt | inr gt ↦ below_first p a n q gt ]
    ])

-- ---- lists of ranges

pub passing_same : (p q : ℕ → Bool) (a n : ℕ) → ((k : ℕ) → a ≤ k → k < a + n → p k ≡ q k)
    → passing p a n ≡ passing q a n
unfolding passing
passing_same p q a zero h = refl
passing_same p q a (suc n) h =
    let rest : passing p (a + 1) n ≡ passing q (a + 1) n =
    passing_same p q (a + 1) n (λ k low high. h k (omega arith) (omega arith)) in
    let here : p a ≡ q a = h a (omega arith) (omega arith) in
    rw (here, rest) refl

pub passing_none : (p : ℕ → Bool) (a n : ℕ) → ((k : ℕ) → a ≤ k → k < a + n → p k ≡ false) → passing p a n ≡ []
unfolding passing
passing_none p a zero h = refl
passing_none p a (suc n) h =
    let rest : passing p (a + 1) n ≡ [] = passing_none p (a + 1) n (λ k low high. h k (omega arith) (omega arith)) in
    rw (h a (omega arith) (omega arith)) rest

pub passing_take : (p : ℕ → Bool) (a n : ℕ) → p a ≡ true → passing p a (suc n) ≡ a ∷ passing p (a + 1) n
unfolding passing
passing_take p a n h = rw h refl

pub passing_skip : (p : ℕ → Bool) (a n : ℕ) → p a ≡ false → passing p a (suc n) ≡ passing p (a + 1) n
unfolding passing
passing_skip p a n h = rw h refl

cond-append : (b : Bool) (a : ℕ) (ys zs : List ℕ) → cond b (a ∷ (ys ++ zs)) (ys ++ zs) ≡ cond b (a ∷ ys) ys ++ zs
cond-append true a ys zs = refl
cond-append false a ys zs = refl

pub passing-add : (p : ℕ → Bool) (a m n : ℕ) → passing p a (m + n) ≡ passing p a m ++ passing p (a + m) n
unfolding passing
passing-add p a zero n =
    let e : zero + n ≡ n = omega arith in
    let e' : a ≡ a + zero = omega arith in
    ap (passing p a) e ∙ ap (λ (x : ℕ). passing p x n) e'
passing-add p a (suc m) n =
    let e : suc m + n ≡ suc (m + n) = omega arith in
    let e' : a + 1 + m ≡ a + suc m = omega arith in
    ap (passing p a) e
    ∙ ap (λ (xs : List ℕ). cond (p a) (a ∷ xs) xs)
    (passing-add p (a + 1) m n ∙ ap (λ (x : ℕ). passing p (a + 1) m ++ passing p x n) e')
    ∙ cond-append (p a) a (passing p (a + 1) m) (passing p (a + suc m) n)

-- nothing passes up to m
pub passing_from : (p : ℕ → Bool) (a m n : ℕ) → ((k : ℕ) → a ≤ k → k < a + m → p k ≡ false)
    → passing p a (m + n) ≡ passing p (a + m) n
passing_from p a m n h = passing-add p a m n ∙ ap (λ (xs : List ℕ). xs ++ passing p (a + m) n) (passing_none p a m h)

-- nothing passes from m on
pub passing_upto : (p : ℕ → Bool) (a m n : ℕ) → ((k : ℕ) → a + m ≤ k → k < a + m + n → p k ≡ false)
    → passing p a (m + n) ≡ passing p a m
passing_upto p a m n h =
    passing-add p a m n ∙ ap (λ (xs : List ℕ). passing p a m ++ xs) (passing_none p (a + m) n h)
    ∙ append-nil' (passing p a m)
  where
    append-nil' : (xs : List ℕ) → xs ++ [] ≡ xs
    append-nil' [] = refl
    append-nil' (x ∷ xs) = ap (λ (ys : List ℕ). x ∷ ys) (append-nil' xs)

-- m is the first number that passes
pub passing_first : (p : ℕ → Bool) (a n m : ℕ) → a ≤ m → m < a + n → ((k : ℕ) → a ≤ k → k < m → p k ≡ false)
    → p m ≡ true → passing p a n ≡ m ∷ passing p (m + 1) (a + n - (m + 1))
passing_first p a n m low high below here =
    let e : n ≡ (m - a) + suc (a + n - (m + 1)) = omega arith in
    let e' : a + (m - a) ≡ m = omega arith in
    ap (passing p a) e ∙ passing_from p a (m - a) (suc (a + n - (m + 1))) (λ k l h. below k l (omega arith))
    ∙ ap (λ (x : ℕ). passing p x (suc (a + n - (m + 1)))) e' ∙ passing_take p m (a + n - (m + 1)) here

-- a list that is not empty begins in its range
pub passing_some : (p : ℕ → Bool) (a n k : ℕ) → a ≤ k → k < a + n → p k ≡ true
    → (x : ℕ) × (xs : List ℕ) × (a ≤ x) × (passing p a n ≡ x ∷ xs)
passing_some p a zero k low high h = absurd (omega arith)
passing_some p a (suc n) k low high h =
    elim (cases_Bool (p a)) [
      | inl t ↦ (a, passing p (a + 1) n, omega arith, passing_take p a n t)
      | inr f ↦
          let other : (a ≡ k) → ⊥ = λ e. false≢true (sym f ∙ ap p e ∙ h) in
          let more = passing_some p (a + 1) n k (omega arith) (omega arith) h in
          (more.0, more.1, omega (arith, more.2), passing_skip p a n f ∙ more.3)
    ]

-- ---- how many

pub length-passing-le : (p : ℕ → Bool) (a n top : ℕ) → ((k : ℕ) → a ≤ k → p k ≡ true → k < top)
    → length (passing p a n) ≤ top - a
unfolding passing
length-passing-le p a zero top h = omega arith
length-passing-le p a (suc n) top h =
    let more : length (passing p (a + 1) n) ≤ top - (a + 1) =
    length-passing-le p (a + 1) n top (λ k low yes'. h k (omega arith) yes') in
    elim (cases_Bool (p a)) [
      | inl t ↦ let lt : a < top = h a (omega arith) t in rw t (omega arith)
      | inr f ↦ rw f (omega arith)
    ]

-- ---- the order

pub slice_cmp-append : (xs ys zs : List ℕ) → slice_cmp nat_cmp (xs ++ ys) (xs ++ zs) ≡ slice_cmp nat_cmp ys zs
slice_cmp-append [] ys zs = refl
slice_cmp-append (x ∷ xs) ys zs =
    ap (λ (o : Ordering). ordering_then o (slice_cmp nat_cmp (xs ++ ys) (xs ++ zs))) (tied_itself nat_cmp_total x)
    ∙ slice_cmp-append xs ys zs

nat_cmp-lt : (x y : ℕ) → x < y → nat_cmp x y ≡ Less
nat_cmp-lt x y h = rw (lt-ltb x y h) refl

-- Two tests that agree below m, of which the first alone passes m.
module _ (p q : ℕ → Bool) (m n : ℕ) (below : (k : ℕ) → k < m → p k ≡ q k) (here : p m ≡ true)
    (there : q m ≡ false) where
  apart : slice_cmp nat_cmp (passing p 0 (m + suc n)) (passing q 0 (m + suc n))
      ≡ slice_cmp nat_cmp (m ∷ passing p (m + 1) n) (passing q (m + 1) n)
  apart =
      let z : 0 + m ≡ m = omega arith in
      let left : passing p 0 (m + suc n) ≡ passing q 0 m ++ (m ∷ passing p (m + 1) n) =
      passing-add p 0 m (suc n)
      ∙ ap (λ (xs : List ℕ). xs ++ passing p (0 + m) (suc n))
      (passing_same p q 0 m (λ k low high. below k (omega arith)))
      ∙ ap (λ (x : ℕ). passing q 0 m ++ passing p x (suc n)) z
      ∙ ap (λ (xs : List ℕ). passing q 0 m ++ xs) (passing_take p m n here) in
      let right : passing q 0 (m + suc n) ≡ passing q 0 m ++ passing q (m + 1) n =
      passing-add q 0 m (suc n) ∙ ap (λ (x : ℕ). passing q 0 m ++ passing q x (suc n)) z
      ∙ ap (λ (xs : List ℕ). passing q 0 m ++ xs) (passing_skip q m n there) in
      rw (left, right) (slice_cmp-append (passing q 0 m) (m ∷ passing p (m + 1) n) (passing q (m + 1) n))

  -- the second passes a greater number too
  pub first_before : (k : ℕ) → m < k → k < m + suc n → q k ≡ true
      → slice_cmp nat_cmp (passing p 0 (m + suc n)) (passing q 0 (m + suc n)) ≡ Less
  first_before k low high yes' =
      let next = passing_some q (m + 1) n k (omega arith) (omega arith) yes' in
      apart ∙ ap (slice_cmp nat_cmp (m ∷ passing p (m + 1) n)) next.3
      ∙ ap (λ (o : Ordering). ordering_then o (slice_cmp nat_cmp (passing p (m + 1) n) next.1))
      (nat_cmp-lt m next.0 (omega (arith, next.2)))

  -- the second passes no greater number
  pub first_behind : ((k : ℕ) → m < k → k < m + suc n → q k ≡ false)
      → slice_cmp nat_cmp (passing p 0 (m + suc n)) (passing q 0 (m + suc n)) ≡ Greater
  first_behind none =
      apart ∙ ap (slice_cmp nat_cmp (m ∷ passing p (m + 1) n))
      (passing_none q (m + 1) n (λ k low high. none k (omega arith) (omega arith)))

-- ---- what stands in the list

-- x passes and lies in the range
abbrev pub Passes : (ℕ → Bool) → ℕ → ℕ → ℕ → Type 0
Passes p low high x = (p x ≡ true) × (low ≤ x) × (x < high)

at_more : (p : ℕ → Bool) (a n : ℕ) (xs : List ℕ)
    → ((j d : ℕ) → j < length xs → Passes p (a + 1) (a + 1 + n) (get_or xs j d)) → p a ≡ true → (i d : ℕ)
    → i < length (a ∷ xs) → Passes p a (a + suc n) (get_or (a ∷ xs) i d)
at_more p a n xs ih t zero d lt = (t, omega arith, omega arith)
at_more p a n xs ih t (suc i) d lt =
    let more = ih i d (omega arith) in (more.0, omega (arith, more.1), omega (arith, more.2))

pub passing-at : (p : ℕ → Bool) (a n i d : ℕ) → i < length (passing p a n)
    → Passes p a (a + n) (get_or (passing p a n) i d)
unfolding passing
passing-at p a zero i d lt = absurd (omega arith)
passing-at p a (suc n) i d lt =
    let more : (j e : ℕ) → j < length (passing p (a + 1) n)
    → Passes p (a + 1) (a + 1 + n) (get_or (passing p (a + 1) n) j e) = λ j e h. passing-at p (a + 1) n j e h in
    elim (cases_Bool (p a)) [
      | inl t ↦
          subst (λ (xs : List ℕ). i < length xs → Passes p a (a + suc n) (get_or xs i d)) (sym (passing_take p a n t))
          (at_more p a n (passing p (a + 1) n) more t i d) lt
      | inr f ↦
          let skipped : i < length (passing p (a + 1) n) → Passes p a (a + suc n) (get_or (passing p (a + 1) n) i d) =
          λ h. let m = more i d h in (m.0, omega (arith, m.1), omega (arith, m.2)) in
          subst (λ (xs : List ℕ). i < length xs → Passes p a (a + suc n) (get_or xs i d)) (sym (passing_skip p a n f))
          skipped lt
    ]

-- each number that passes has a place
pub passing-place : (p : ℕ → Bool) (a n k : ℕ) → a ≤ k → k < a + n → p k ≡ true
    → (j : ℕ) × (j < length (passing p a n)) × (get_or (passing p a n) j 0 ≡ k)
passing-place p a zero k low high h = absurd (omega arith)
passing-place p a (suc n) k low high h =
    elim (cases_Bool (p a)) [
      | inl t ↦
          subst (λ (xs : List ℕ). (j : ℕ) × (j < length xs) × (get_or xs j 0 ≡ k)) (sym (passing_take p a n t))
          (elim (cases_order a k) [
            | inl e ↦ (0, omega arith, e)
            | inr r ↦ elim r [
              | inl lt ↦
                  let more = passing-place p (a + 1) n k (omega arith) (omega arith) h in
                  (suc more.0, omega (arith, more.1), more.2)
              | inr gt ↦ absurd (omega arith)
            ]
          ])
      | inr f ↦
          let other : (a ≡ k) → ⊥ = λ e. false≢true (sym f ∙ ap p e ∙ h) in
          subst (λ (xs : List ℕ). (j : ℕ) × (j < length xs) × (get_or xs j 0 ≡ k)) (sym (passing_skip p a n f))
          (passing-place p (a + 1) n k (omega arith) (omega arith) h)
    ]

ascends_more : (p : ℕ → Bool) (a n : ℕ)
    → ((k l : ℕ) → k < l → l < length (passing p (a + 1) n)
    → get_or (passing p (a + 1) n) k 0 < get_or (passing p (a + 1) n) l 0)
    → (i j : ℕ) → i < j → j < length (a ∷ passing p (a + 1) n)
    → get_or (a ∷ passing p (a + 1) n) i 0 < get_or (a ∷ passing p (a + 1) n) j 0
ascends_more p a n ih i zero lt within = absurd (omega arith)
ascends_more p a n ih zero (suc j) lt within = omega (arith, (passing-at p (a + 1) n j 0 (omega arith)).1)
ascends_more p a n ih (suc i) (suc j) lt within = ih i j (omega arith) (omega arith)

-- the numbers ascend
pub passing-ascends : (p : ℕ → Bool) (a n i j : ℕ) → i < j → j < length (passing p a n)
    → get_or (passing p a n) i 0 < get_or (passing p a n) j 0
unfolding passing
passing-ascends p a zero i j lt within = absurd (omega arith)
passing-ascends p a (suc n) i j lt within =
    elim (cases_Bool (p a)) [
      | inl t ↦
          subst (λ (xs : List ℕ). j < length xs → get_or xs i 0 < get_or xs j 0) (sym (passing_take p a n t))
          (ascends_more p a n (λ k l less h. passing-ascends p (a + 1) n k l less h) i j lt) within
      | inr f ↦
          subst (λ (xs : List ℕ). j < length xs → get_or xs i 0 < get_or xs j 0) (sym (passing_skip p a n f))
          (λ h. passing-ascends p (a + 1) n i j lt h) within
    ]
