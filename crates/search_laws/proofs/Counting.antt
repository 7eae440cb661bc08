-- Counts of the numbers below a bound that pass a test, and of the same numbers by their places in the list of them.
use Rattle.std.proofs.Common.{◌≡◌, ℕ, zero, suc, ◌+◌, ◌<◌, ◌≤◌, ◌&&◌, ◌⊎◌, Bool, true, false, cond, eqb, List, [], ◌∷◌}
use Rattle.std.proofs.Common.{length, get_or, refl, ap, ◌∙◌, sym, subst, arith, inl, inr}
use Rattle.std.specs.List.{range_with_len, filter, All, AllPairs}
use Rattle.std.proofs.lemmas.Bool.{cases_Bool, cases_eq, cases_lt, eqb-true}
use Rattle.std.proofs.lemmas.List.{get_or_default}
use Rattle.std.proofs.lemmas.List.Elements.{All-filter, filter_passes}
use Rattle.std.proofs.lemmas.List.FromFn.{length-range_with_len, get_or-range_with_len}
use Rattle.std.proofs.lemmas.List.Kept.{AllPairs-filter}
use Rattle.std.proofs.lemmas.Map.Views.{Contains-from_any}
use Rattle.shq_terms.proofs.Bools.{counted_le, counted_at_most_one, none_counted}
use Rattle.ontology_limits.specs.Below.{count_below}
use Rattle.tableau_specs.proofs.Saturated.{in_range, in_filter}

-- ---- counts below a bound

pub count_agree : (m : ℕ) (p q : ℕ → Bool) → ((y : ℕ) → y < m → p y ≡ q y) → count_below m p ≡ count_below m q
count_agree zero p q same = refl
count_agree (suc m) p q same =
    let rest = count_agree m p q (λ y lt. same y (omega arith)) in
    let here = same m (omega arith) in
    λ i. rest i + cond (here i) 1 0

pub cond_more : (a b : Bool) → a ≡ false → b ≡ true → cond a 1 0 + 1 ≤ cond b 1 0
cond_more a b out here = rw (out, here) (omega arith)

-- what passes is counted by a weaker test
pub count_le : (m : ℕ) (p q : ℕ → Bool) → ((y : ℕ) → y < m → p y ≡ true → q y ≡ true)
    → count_below m p ≤ count_below m q
count_le zero p q imp = omega arith
count_le (suc m) p q imp =
    let rest = count_le m p q (λ y lt. imp y (omega arith)) in
    let here = counted_le (p m) (q m) (imp m (omega arith)) in
    omega arith

-- and one more, where one passes the weaker test alone
pub count_more : (n : ℕ) (p q : ℕ → Bool) (y : ℕ) → y < n → ((z : ℕ) → z < n → p z ≡ true → q z ≡ true) → p y ≡ false
    → q y ≡ true → count_below n p + 1 ≤ count_below n q
count_more zero p q y lt imp out here = absurd (omega arith)
count_more (suc n) p q y lt imp out here = elim (cases_eq y n) [
  | inl e ↦
      let rest = count_le n p q (λ z mt. imp z (omega arith)) in
      let last = cond_more (p n) (q n) (subst (λ (z : ℕ). p z ≡ false) e out) (subst (λ (z : ℕ). q z ≡ true) e here) in
      omega arith
  | inr ne ↦
      let rest = count_more n p q y (omega arith) (λ z mt. imp z (omega arith)) out here in
      let last = counted_le (p n) (q n) (imp n (omega arith)) in
      omega arith
]

pub count_most : (n : ℕ) (p : ℕ → Bool) → count_below n p ≤ n
count_most zero p = omega arith
count_most (suc n) p = let rest = count_most n p in let here = counted_at_most_one (p n) in omega arith

one_passes : (n : ℕ) (b : Bool) → b ≡ true → n + cond b 1 0 ≡ n + 1
one_passes n b e = rw e refl

pub count_longer : (n k m : ℕ) (p : ℕ → Bool) → m ≡ n + k → count_below m p ≤ count_below n p + k
count_longer n zero m p e = omega (arith, ap (λ (a : ℕ). count_below a p) e, zero_more)
  where
    zero_more : count_below (n + 0) p ≡ count_below n p
    zero_more = (let e' : n + 0 ≡ n = omega arith in ap (λ (a : ℕ). count_below a p) e')
count_longer n (suc k) m p e =
    let m' : m ≡ suc (n + k) = omega (arith, e) in
    let rest = count_longer n k (n + k) p refl in
    let here = counted_at_most_one (p (n + k)) in
    omega (arith, ap (λ (a : ℕ). count_below a p) m')

-- where what is past the first n fails, it counts for nothing
pub count_no_more : (n k m : ℕ) (p : ℕ → Bool) → m ≡ n + k → ((y : ℕ) → n ≤ y → y < m → p y ≡ false)
    → count_below m p ≡ count_below n p
count_no_more n zero m p e out = let e' : m ≡ n = omega (arith, e) in ap (λ (a : ℕ). count_below a p) e'
count_no_more n (suc k) m p e out =
    let m' : m ≡ suc (n + k) = omega (arith, e) in
    let rest = count_no_more n k (n + k) p refl (λ y from before. out y from (omega (arith, e))) in
    let here = none_counted (count_below (n + k) p) (p (n + k)) (out (n + k) (omega arith) (omega (arith, e))) in
    omega (arith, ap (λ (a : ℕ). count_below a p) m')

pub count_all : (n : ℕ) (p : ℕ → Bool) → ((y : ℕ) → y < n → p y ≡ true) → count_below n p ≡ n
count_all zero p imp = refl
count_all (suc n) p imp =
    let rest = count_all n p (λ y lt. imp y (omega arith)) in
    let here = one_passes (count_below n p) (p n) (imp n (omega arith)) in omega arith

-- so many that follow one another and pass
pub count_run : (m : ℕ) (p : ℕ → Bool) (a n : ℕ) → a + n ≤ m → ((y : ℕ) → a ≤ y → y < a + n → p y ≡ true)
    → n ≤ count_below m p
count_run m p a zero le each = omega arith
count_run zero p a (suc n) le each = absurd (omega arith)
count_run (suc m) p a (suc n) le each = elim (cases_lt (a + n) m) [
  | inl low ↦ omega (arith, count_run m p a (suc n) (omega arith) each)
  | inr high ↦
      let rest = count_run m p a n (omega arith) (λ y from lt. each y from (omega arith)) in
      let here : p m ≡ true = each m (omega arith) (omega arith) in
      rw here (omega arith)
]

pub count_one : (m : ℕ) (p : ℕ → Bool) (y : ℕ) → y < m → p y ≡ true → 1 ≤ count_below m p
count_one m p y lt h =
    count_run m p y 1 (omega arith) (λ z from before. let e : y ≡ z = omega arith in subst (λ (k : ℕ). p k ≡ true) e h)

-- ---- counts by places

count_first : (n : ℕ) (q : ℕ → Bool) → count_below (suc n) q ≡ cond (q 0) 1 0 + count_below n (λ k. q (suc k))
count_first zero q = omega arith
count_first (suc n) q = let before = count_first n q in omega (arith, before)

count_places : (p : ℕ → Bool) (xs : List ℕ) → count_below (length xs) (λ k. p (get_or xs k 0)) ≡ length (filter p xs)
count_places p [] = refl
count_places p (x ∷ xs) =
    let before = count_places p xs in
    let first : count_below (length (x ∷ xs)) (λ k. p (get_or (x ∷ xs) k 0))
    ≡ cond (p x) 1 0 + count_below (length xs) (λ k. p (get_or xs k 0)) =
    count_first (length xs) (λ k. p (get_or (x ∷ xs) k 0)) in
    first ∙ elim (p x) as
    (λ b. cond b 1 0 + count_below (length xs) (λ k. p (get_or xs k 0))
    ≡ length (cond b (x ∷ filter p xs) (filter p xs))) [
      | true ↦ omega (arith, before)
      | false ↦ omega (arith, before)
    ]

-- the numbers below n that pass
count_range : (p : ℕ → Bool) (n : ℕ) → length (filter p (range_with_len 0 n)) ≡ count_below n p
count_range p n =
    let at : ℕ → Bool = λ k. p (get_or (range_with_len 0 n) k 0) in
    sym (count_places p (range_with_len 0 n))
    ∙ ap (λ (m : ℕ). count_below m at) (length-range_with_len 0 n)
    ∙ count_agree n at p
    (λ k lt. let e : get_or (range_with_len 0 n) k 0 ≡ k = omega (arith, get_or-range_with_len 0 n k 0 lt) in ap p e)

filter_twice : (p q : ℕ → Bool) (xs : List ℕ) → filter p (filter q xs) ≡ filter (λ y. q y && p y) xs
filter_twice p q [] = refl
filter_twice p q (x ∷ xs) = elim (q x) as
    (λ b. filter p (cond b (x ∷ filter q xs) (filter q xs))
    ≡ cond (b && p x) (x ∷ filter (λ y. q y && p y) xs) (filter (λ y. q y && p y) xs)) [
      | true ↦ ap (λ (ys : List ℕ). cond (p x) (x ∷ ys) ys) (filter_twice p q xs)
      | false ↦ filter_twice p q xs
    ]

-- ---- the numbers below a bound that pass a test

range_within : (n : ℕ) → All (λ y. y < n) (range_with_len 0 n)
range_within n k d lt = omega
    (arith, lt, length-range_with_len 0 n, get_or-range_with_len 0 n k d (omega (arith, lt, length-range_with_len 0 n)))

range_ascends : (n : ℕ) → AllPairs (λ y z. y < z) (range_with_len 0 n)
range_ascends n i j d lt mt =
    omega (
      arith,
      lt,
      get_or-range_with_len 0 n i d (omega (arith, lt, mt, length-range_with_len 0 n)),
      get_or-range_with_len 0 n j d (omega (arith, mt, length-range_with_len 0 n)),
    )

module _ (q : ℕ → Bool) (n : ℕ) where
  abbrev passing : List ℕ
  passing = filter q (range_with_len 0 n)

  pub passing_ascends : AllPairs (λ y z. y < z) (filter q (range_with_len 0 n))
  passing_ascends = AllPairs-filter (λ y z. y < z) q (range_with_len 0 n) (range_ascends n)

  -- the place of a number that passes
  pub record Place (y : ℕ) : Type 0 where
    pub at : ℕ
    pub is_within : at < length (filter q (range_with_len 0 n))
    pub is_there : get_or (filter q (range_with_len 0 n)) at 0 ≡ y

  pub place : (y : ℕ) → y < n → q y ≡ true → Place y
  place y lt h =
      let c =
      Contains-from_any {K = ℕ} {eq = eqb} (λ a b e. eqb-true a b e) y passing
      (in_filter q y (range_with_len 0 n) h (in_range y 0 n (omega arith) (omega (arith, lt)))) in
      record { at = c.0; is_within = c.1; is_there = get_or_default passing c.0 0 y c.1 ∙ c.2 }

  -- a number at a place passes
  pub passing_at : (k : ℕ) → k < length (filter q (range_with_len 0 n))
      → (get_or (filter q (range_with_len 0 n)) k 0 < n) × (q (get_or (filter q (range_with_len 0 n)) k 0) ≡ true)
  passing_at k lt = (
    All-filter q (λ y. y < n) (range_with_len 0 n) (range_within n) k 0 lt,
    filter_passes q (range_with_len 0 n) k 0 lt,
  )

  pub length-passing : length (filter q (range_with_len 0 n)) ≡ count_below n q
  length-passing = count_range q n

  pub length-passing_twice : (p : ℕ → Bool)
      → length (filter p (filter q (range_with_len 0 n))) ≡ count_below n (λ y. q y && p y)
  length-passing_twice p = ap length (filter_twice p q (range_with_len 0 n)) ∙ count_range (λ y. q y && p y) n

  -- what is counted by places is counted by numbers
  pub count_passing : (p : ℕ → Bool)
      → count_below (length (filter q (range_with_len 0 n))) (λ k. p (get_or (filter q (range_with_len 0 n)) k 0))
      ≡ count_below n (λ y. q y && p y)
  count_passing p = count_places p passing ∙ length-passing_twice p

-- where 0 passes, it is the first
pub first_passing : (q : ℕ → Bool) (n : ℕ) → 0 < n → q 0 ≡ true
    → (0 < length (filter q (range_with_len 0 n))) × (get_or (filter q (range_with_len 0 n)) 0 0 ≡ 0)
first_passing q zero lt h = absurd (omega arith)
first_passing q (suc n) lt h =
    let others = filter q (range_with_len 1 n) in
    let list : filter q (range_with_len 0 (suc n)) ≡ 0 ∷ others = ap (λ (b : Bool). cond b (0 ∷ others) others) h in
    (omega (arith, ap length list), ap (λ (xs : List ℕ). get_or xs 0 0) list)

-- ---- a number that passes, where not all fail

searched : (n : ℕ) (p : ℕ → Bool) → ((y : ℕ) × (p y ≡ true)) ⊎ ((y : ℕ) → y < n → p y ≡ false)
searched zero p = inr (λ y lt. absurd (omega arith))
searched (suc n) p = elim (searched n p) [
  | inl found ↦ inl found
  | inr none ↦ elim (cases_Bool (p n)) [
    | inl here ↦ inl (n, here)
    | inr fails ↦ inr (λ y lt. elim (cases_eq y n)
        [ inl e ↦ subst (λ (k : ℕ). p k ≡ false) (sym e) fails | inr ne ↦ none y (omega arith) ])
  ]
]

fails_past : (n : ℕ) (p : ℕ → Bool) → ((y : ℕ) → p y ≡ true → y < n) → ((y : ℕ) → y < n → p y ≡ false) → (y : ℕ)
    → p y ≡ false
fails_past n p bound none y = elim (cases_Bool (p y)) [ inl h ↦ none y (bound y h) | inr f ↦ f ]

pub passes_somewhere : (n : ℕ) (p : ℕ → Bool) → ((y : ℕ) → p y ≡ true → y < n) → ¬ ((y : ℕ) → p y ≡ false)
    → (y : ℕ) × (p y ≡ true)
passes_somewhere n p bound not_none =
    elim (searched n p) [ inl found ↦ found | inr none ↦ absurd (not_none (fails_past n p bound none)) ]
