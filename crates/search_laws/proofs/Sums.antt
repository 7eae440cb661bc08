-- Sums over the numbers below a bound, and counts in a list.
use Rattle.std.proofs.Common.{◌≡◌, ℕ, zero, suc, ◌+◌, ◌*◌, ◌<◌, ◌≤◌, Bool, true, false, cond, eqb, List, [], ◌∷◌}
use Rattle.std.proofs.Common.{length, subst, arith, inl, inr}
use Rattle.std.specs.List.{list_any}
use Rattle.std.proofs.lemmas.Bool.{cases_eq, or_cases, eqb-true}
use Rattle.shq_terms.proofs.Bools.{counted_le, counted_at_most_one}
use Rattle.search_laws.proofs.Counting.{cond_more}

-- ---- sums

abbrev pub sum_below : ℕ → (ℕ → ℕ) → ℕ
sum_below zero f = 0
sum_below (suc n) f = sum_below n f + f n

pub sum_le : (n : ℕ) (f g : ℕ → ℕ) → ((y : ℕ) → y < n → f y ≤ g y) → sum_below n f ≤ sum_below n g
sum_le zero f g le = omega arith
sum_le (suc n) f g le =
    let rest = sum_le n f g (λ y lt. le y (omega arith)) in let here = le n (omega arith) in omega arith

-- where no term falls and one rises, the sum rises
pub sum_more : (n : ℕ) (f g : ℕ → ℕ) (y : ℕ) → y < n → ((z : ℕ) → z < n → f z ≤ g z) → f y + 1 ≤ g y
    → sum_below n f + 1 ≤ sum_below n g
sum_more zero f g y lt le more = absurd (omega arith)
sum_more (suc n) f g y lt le more = elim (cases_eq y n) [
  | inl e ↦
      let rest = sum_le n f g (λ z mt. le z (omega arith)) in
      let here : f n + 1 ≤ g n = subst (λ (z : ℕ). f z + 1 ≤ g z) e more in
      omega arith
  | inr ne ↦
      let rest = sum_more n f g y (omega arith) (λ z mt. le z (omega arith)) more in
      let here = le n (omega arith) in omega arith
]

pub sum_most : (n m : ℕ) (f : ℕ → ℕ) → ((y : ℕ) → y < n → f y ≤ m) → sum_below n f ≤ n * m
sum_most zero m f le = omega arith
sum_most (suc n) m f le =
    let rest = sum_most n m f (λ y lt. le y (omega arith)) in let here = le n (omega arith) in omega arith

-- ---- counts in a list

abbrev pub count_in : List ℕ → (ℕ → Bool) → ℕ
count_in [] p = 0
count_in (d ∷ ds) p = count_in ds p + cond (p d) 1 0

pub in_le : (ds : List ℕ) (p q : ℕ → Bool) → ((d : ℕ) → p d ≡ true → q d ≡ true) → count_in ds p ≤ count_in ds q
in_le [] p q imp = omega arith
in_le (d ∷ ds) p q imp = let rest = in_le ds p q imp in let here = counted_le (p d) (q d) (imp d) in omega arith

pub in_more : (ds : List ℕ) (p q : ℕ → Bool) (d : ℕ) → list_any (eqb d) ds ≡ true → ((e : ℕ) → p e ≡ true → q e ≡ true)
    → p d ≡ false → q d ≡ true → count_in ds p + 1 ≤ count_in ds q
in_more [] p q d m imp out here = cc
in_more (e ∷ ds) p q d m imp out here = elim (or_cases (eqb d e) (list_any (eqb d) ds) m) [
  | inl at ↦
      let same = eqb-true d e at in
      let rest = in_le ds p q imp in
      let first =
      cond_more (p e) (q e) (subst (λ (z : ℕ). p z ≡ false) same out) (subst (λ (z : ℕ). q z ≡ true) same here) in
      omega arith
  | inr later ↦
      let rest = in_more ds p q d later imp out here in let first = counted_le (p e) (q e) (imp e) in omega arith
]

pub in_most : (ds : List ℕ) (p : ℕ → Bool) → count_in ds p ≤ length ds
in_most [] p = omega arith
in_most (d ∷ ds) p = let rest = in_most ds p in let here = counted_at_most_one (p d) in omega arith
