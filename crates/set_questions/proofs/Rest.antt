-- The numbers from 1 to a limit.
use Rattle.std.proofs.Common.{◌≡◌, ℕ, zero, suc, ◌+◌, ◌≤◌, ◌&&◌, true, eqb, refl, sym, ◌∙◌, arith, inl, inr}
use Rattle.std.specs.Prelude.{nat_le}
use Rattle.std.specs.Cmp.{nat_cmp_total}
use Rattle.std.specs.FinSet as set
use Rattle.std.proofs.lemmas.Bool.{true≢false, or_cases, and_parts, eqb-true, le-leb, leb-true}
use Rattle.lane_sieve.proofs.Bools.{same_truth}
use Rattle.lane_sieve.specs.Sets.{NumberSet}
use Rattle.lane_sieve.proofs.Bits.{contains_insert}
use Rattle.pinpointing_specs.specs.Sets.{IsFull}
use Rattle.pinpointing_specs.specs.Smallest.{numbers_to}
use Rattle.pinpointing_specs.proofs.Choices.{in_numbers_to}

pub numbers_within : (n k : ℕ) → set.contains (numbers_to n) k ≡ true → (1 ≤ k) × (k ≤ n)
unfolding numbers_to
numbers_within zero k h = absurd (true≢false (sym h ∙ set.contains-empty _ k))
numbers_within (suc n) k h =
    elim
    (or_cases (eqb k (n + 1)) (set.contains (numbers_to n) k) (sym (contains_insert (numbers_to n) (n + 1) k) ∙ h)) [
      | inl e ↦ let same : k ≡ n + 1 = eqb-true k (n + 1) e in (omega arith, omega arith)
      | inr old ↦ let both = numbers_within n k old in (both.0, omega (arith, both.1))
    ]

numbers_are : (n k : ℕ) → set.contains (numbers_to n) k ≡ (nat_le 1 k && nat_le k n)
numbers_are n k =
    same_truth _ _ (λ h. let both = numbers_within n k h in rw (le-leb 1 k both.0, le-leb k n both.1) refl)
    (λ h.
    let both = and_parts (nat_le 1 k) (nat_le k n) h in in_numbers_to n k (leb-true 1 k both.0) (leb-true k n both.1))

-- a full set has just these numbers
pub full_is : (n : ℕ) (full : NumberSet) → IsFull n full → full ≡ numbers_to n
full_is n full all =
    set.same_set nat_cmp_total set.nat_cmp-IsAntisymmetric full (numbers_to n) (λ k. all k ∙ sym (numbers_are n k))
