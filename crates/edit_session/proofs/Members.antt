-- Members of sets up to a number.
use Rattle.std.proofs.Common.{◌≡◌, ℕ, ◌+◌, ◌&&◌, Bool, true, false, refl, ap, sym, ◌∙◌}
use Rattle.std.proofs.Common.{arith, inl, inr, eq-eqb}
use Rattle.std.specs.Prelude.{nat_le}
use Rattle.std.specs.FinSet as set
use Rattle.std.specs.Cmp.{nat_cmp_total}
use Rattle.std.specs.Ordering.{nat_cmp}
use Rattle.std.proofs.lemmas.Bool.{cases_lt, cases_eq, le-leb, lt-leb, ne_eqb}
use Rattle.lane_sieve.specs.Sets.{NumberSet}
use Rattle.lane_sieve.proofs.Bits.{contains_insert}
use Rattle.axiom_sets.specs.Sets.{IsWithin}

-- ---- up to a number

-- no member is 0
pub none_up_to : (s t : NumberSet) (limit : ℕ) → IsWithin limit s → t ≡ set.empty → (k : ℕ)
    → set.contains t k ≡ (set.contains s k && nat_le k 0)
none_up_to s t limit within e k =
    ap (λ (u : NumberSet). set.contains u k) e ∙ set.contains-empty nat_cmp k ∙ sym (by (set.contains s k) refl)
  where
    by : (b : Bool) → set.contains s k ≡ b → (b && nat_le k 0) ≡ false
    by true h = let low = within k h in ap (λ (b : Bool). true && b) (lt-leb k 0 (omega (arith, low.0)))
    by false h = refl

module _ (s t : NumberSet) (n : ℕ) (up_to : (k : ℕ) → set.contains t k ≡ (set.contains s k && nat_le k n)) where
  -- one number more, which is a member
  pub one_up : set.contains s (n + 1) ≡ true → (k : ℕ)
      → set.contains (set.insert t (n + 1)) k ≡ (set.contains s k && nat_le k (n + 1))
  one_up there k =
      contains_insert t (n + 1) k
      ∙ (elim (cases_eq k (n + 1)) [
        | inl e ↦ rw (eq-eqb k (n + 1) e, le-leb k (n + 1) (omega (arith, e)), ap (set.contains s) e, there) refl
        | inr ne ↦ rw (ne_eqb k (n + 1) ne) (up_to k ∙ ap (λ (b : Bool). set.contains s k && b) (others ne))
      ])
    where
      others : (k ≡ n + 1 → ⊥) → nat_le k n ≡ nat_le k (n + 1)
      others ne = elim (cases_lt k (n + 1)) [
        | inl lt ↦ le-leb k n (omega (arith, lt)) ∙ sym (le-leb k (n + 1) (omega (arith, lt)))
        | inr ge ↦ lt-leb k n (omega (arith, ge)) ∙ sym (lt-leb k (n + 1) (omega (arith, ge, ne)))
      ]

  -- one number more, which is none
  pub none_up : set.contains s (n + 1) ≡ false → (k : ℕ) → set.contains t k ≡ (set.contains s k && nat_le k (n + 1))
  none_up none k = up_to k ∙ (elim (cases_eq k (n + 1)) [
    | inl e ↦ rw (ap (set.contains s) e, none) refl
    | inr ne ↦ ap (λ (b : Bool). set.contains s k && b) (elim (cases_lt k (n + 1)) [
      | inl lt ↦ le-leb k n (omega (arith, lt)) ∙ sym (le-leb k (n + 1) (omega (arith, lt)))
      | inr ge ↦ lt-leb k n (omega (arith, ge)) ∙ sym (lt-leb k (n + 1) (omega (arith, ge, ne)))
    ])
  ])

  -- all of them
  pub all_up : IsWithin n s → t ≡ s
  all_up within =
      set.same_set nat_cmp_total set.nat_cmp-IsAntisymmetric t s (λ k. up_to k ∙ by k (set.contains s k) refl)
    where
      by : (k : ℕ) (b : Bool) → set.contains s k ≡ b → (b && nat_le k n) ≡ b
      by k true h = let high = within k h in ap (λ (b : Bool). true && b) (le-leb k n high.1)
      by k false h = refl
