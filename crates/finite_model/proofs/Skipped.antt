-- Numbers that are passed over change nothing of what holds of all numbers, and nothing of a count.
use Rattle.std.proofs.Common.{◌≡◌, ℕ, zero, suc, ◌+◌, ◌<◌, ◌≤◌, Bool, true, false, ◌&&◌, cond, refl, ap, sym, ◌∙◌, inl}
use Rattle.std.proofs.Common.{inr, arith}
use Rattle.std.proofs.lemmas.Bool.{cases_eq}
use Rattle.shq_terms.proofs.Bools.{none_counted}
use Rattle.shq_meaning.specs.Below.{all_below, count_below}
use Rattle.shq_meaning.proofs.Below.{all_below-false}
use Rattle.finite_model.specs.Next.{FailsBetween, IsNextAt}

and_true : (a b : Bool) → b ≡ true → (a && b) ≡ a
and_true true b h = h
and_true false b h = refl

pub all_skipped : (q : ℕ → Bool) (from to : ℕ) → from ≤ to → ((k : ℕ) → from ≤ k → k < to → q k ≡ true)
    → all_below to q ≡ all_below from q
all_skipped q from zero le good = let same : zero ≡ from = omega arith in ap (λ k. all_below k q) same
all_skipped q from (suc n) le good = elim (cases_eq from (suc n)) [
  | inl same ↦ ap (λ k. all_below k q) (sym same)
  | inr other ↦
      and_true (all_below n q) (q n) (good n (omega arith) (omega arith))
      ∙ all_skipped q from n (omega arith) (λ k low high. good k low (omega arith))
]

pub count_skipped : (q : ℕ → Bool) (from to : ℕ) → from ≤ to → ((k : ℕ) → from ≤ k → k < to → q k ≡ false)
    → count_below to q ≡ count_below from q
count_skipped q from zero le bad = let same : zero ≡ from = omega arith in ap (λ k. count_below k q) same
count_skipped q from (suc n) le bad = elim (cases_eq from (suc n)) [
  | inl same ↦ ap (λ k. count_below k q) (sym same)
  | inr other ↦
      none_counted (count_below n q) (q n) (bad n (omega arith) (omega arith))
      ∙ count_skipped q from n (omega arith) (λ k low high. bad k low (omega arith))
]

-- ---- all numbers, where the test q holds wherever p fails

module _ (p q : ℕ → Bool) (empty : (k : ℕ) → p k ≡ false → q k ≡ true) where
  pub all_before : (size from x : ℕ) → IsNextAt size from p x → all_below x q ≡ all_below from q
  all_before size from x next =
      all_skipped q from x next.reached (λ k low high. empty k (next.passed_over.fails k low high))

  pub all_passed : (size from x after : ℕ) → all_below from q ≡ true → IsNextAt size from p x → q x ≡ true
      → after ≡ x + 1 → all_below after q ≡ true
  all_passed size from x after so_far next here later =
      let before : all_below x q ≡ true = all_before size from x next ∙ so_far in
      let next_is : after ≡ suc x = omega arith in
      rw (next_is, before, here)

  pub all_ended : (size from : ℕ) → from ≤ size → FailsBetween from size p → all_below size q ≡ all_below from q
  all_ended size from le skipped = all_skipped q from size le (λ k low high. empty k (skipped.fails k low high))

-- one number at which the test fails
pub all_failed : (q : ℕ → Bool) (size x : ℕ) → x < size → q x ≡ false → false ≡ all_below size q
all_failed q size x below fails = sym (all_below-false size q x below fails)

-- ---- a count, where the test q fails wherever p fails

module _ (p q : ℕ → Bool) (empty : (k : ℕ) → p k ≡ false → q k ≡ false) where
  pub count_stepped : (size from x after count more : ℕ) → count ≡ count_below from q → IsNextAt size from p x
      → more ≡ cond (q x) 1 0 → after ≡ x + 1 → count + more ≡ count_below after q
  count_stepped size from x after count more so_far next here later =
      let before : count_below x q ≡ count =
      count_skipped q from x next.reached (λ k low high. empty k (next.passed_over.fails k low high)) ∙ sym so_far in
      let next_is : after ≡ suc x = omega arith in
      rw (next_is, before, here)

  pub count_ended : (size from : ℕ) → from ≤ size → FailsBetween from size p → count_below size q ≡ count_below from q
  count_ended size from le skipped = count_skipped q from size le (λ k low high. empty k (skipped.fails k low high))
