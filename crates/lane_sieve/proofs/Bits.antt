-- The bits of words, and the sets of numbers that words stand for.
use Rattle.std.proofs.Common.{◌≡◌, ◌≢◌, ℕ, ◌+◌, ◌*◌, ◌/◌, ◌%◌, ◌^◌, ◌<◌, ◌≤◌, ◌&&◌, ◌||◌, not, Bool, true, false, cond}
use Rattle.std.proofs.Common.{eqb, List, length, get_or, set, refl, sym, ap, ◌∙◌, arith, inl, inr, eq-eqb}
use Rattle.std.specs.Prelude.{bit_and, bit_or}
use Rattle.std.specs.Int.{bit_at, bit_not, w64}
use Rattle.std.specs.Cmp.{nat_cmp_total, unsigned_tied}
use Rattle.std.specs.FinSet as sets
use Rattle.std.proofs.lemmas.Bool.{ne_eqb, cases_eq, cases_lt, false≢true, le-leb, lt-ltb}
use Rattle.std.proofs.lemmas.List.{get_or_past, get_or-set_same, get_or-set_other}
use Rattle.std.proofs.lemmas.Nat.Bits.{bit_at-zero, bit_at_set_same, bit_at_set_other, bit_at_clear_same}
use Rattle.std.proofs.lemmas.Nat.Bits.{bit_at_clear_other}
use Rattle.shq_base.proofs.Bools.{same_truth}
use Rattle.lane_sieve.specs.Sets.{NumberSet, has_bit, passing, number_set}
use Rattle.lane_sieve.proofs.Ranges.{any-passing}

-- ---- bits

pub has_bit-is : (words : List ℕ) (k : ℕ) → has_bit words k ≡ eqb (bit_at (get_or words (k / 64) 0) (k % 64)) 1
unfolding has_bit
has_bit-is words k = refl

pub has_bit-at : (words : List ℕ) (i j : ℕ) → j < 64 → has_bit words (64 * i + j) ≡ eqb (bit_at (get_or words i 0) j) 1
has_bit-at words i j h =
    let e : (64 * i + j) / 64 ≡ i = omega arith in
    let e' : (64 * i + j) % 64 ≡ j = omega arith in
    rw (has_bit-is, e, e') refl

pub has_bit-past : (words : List ℕ) (k : ℕ) → 64 * length words ≤ k → has_bit words k ≡ false
has_bit-past words k h = rw (has_bit-is, get_or_past words (k / 64) 0 (omega arith), bit_at-zero (k % 64)) refl

pub has_bit-within : (words : List ℕ) (k : ℕ) → has_bit words k ≡ true → k < 64 * length words
has_bit-within words k h = elim (cases_lt k (64 * length words))
    [ inl lt ↦ lt | inr ge ↦ absurd (false≢true (sym (has_bit-past words k ge) ∙ h)) ]

pub has_bit-set : (words : List ℕ) (i v k : ℕ) → i < length words
    → has_bit (set words i v) k ≡ cond (eqb (k / 64) i) (eqb (bit_at v (k % 64)) 1) (has_bit words k)
has_bit-set words i v k h =
    elim (cases_eq (k / 64) i) [
      | inl e ↦ rw (has_bit-is, eq-eqb (k / 64) i e, e, get_or-set_same words i v 0 h) refl
      | inr ne ↦
          rw (
            has_bit-is (set words i v) k,
            has_bit-is words k,
            ne_eqb (k / 64) i ne,
            get_or-set_other words i (k / 64) v 0 ne,
          ) refl
    ]

-- ---- the set of some words

pub contains-number_set : (words : List ℕ) (k : ℕ) → sets.contains (number_set words) k ≡ has_bit words k
unfolding number_set
contains-number_set words k =
    sets.contains-from_list_nat (passing (has_bit words) 0 (64 * length words)) k
    ∙ any-passing (has_bit words) 0 (64 * length words) k
    ∙ (elim (cases_lt k (64 * length words)) [
      | inl lt ↦
          rw (le-leb 0 k (omega arith), lt-ltb k (0 + 64 * length words) (omega arith))
          (elim (has_bit words k) as (λ b. (b && true) ≡ b) [ true ↦ refl | false ↦ refl ])
      | inr ge ↦ rw (has_bit-past words k ge) refl
    ])

pub number_set_same : (words : List ℕ) (s : NumberSet) → ((k : ℕ) → has_bit words k ≡ sets.contains s k)
    → number_set words ≡ s
number_set_same words s h =
    sets.same_set nat_cmp_total sets.nat_cmp-IsAntisymmetric (number_set words) s
    (λ k. contains-number_set words k ∙ h k)

pub contains_insert : (s : NumberSet) (n k : ℕ) → sets.contains (sets.insert s n) k ≡ (eqb k n || sets.contains s k)
contains_insert s n k =
    sets.contains-insert nat_cmp_total s n k ∙ ap (λ (b : Bool). b || sets.contains s k) (unsigned_tied k n)

pub contains_remove : (s : NumberSet) (n k : ℕ)
    → sets.contains (sets.remove s n) k ≡ (not (eqb k n) && sets.contains s k)
contains_remove s n k =
    sets.contains-remove nat_cmp_total s n k ∙ ap (λ (b : Bool). not b && sets.contains s k) (unsigned_tied k n)

-- ---- one number more, and one less

module _ (words : List ℕ) (n : ℕ) (lt : n / 64 < length words) where
  abbrev word : ℕ
  word = get_or words (n / 64) 0

  put_at : (k : ℕ)
      → has_bit (set words (n / 64) (bit_or word (1 * 2 ^ (n % 64) % 2 ^ 64))) k ≡ (eqb k n || has_bit words k)
  put_at k =
      has_bit-set words (n / 64) (bit_or word (1 * 2 ^ (n % 64) % 2 ^ 64)) k lt
      ∙ (elim (cases_eq k n) [
        | inl e ↦
            rw (e, eq-eqb (n / 64) (n / 64) refl, eq-eqb n n refl, bit_at_set_same w64 word (n % 64) (omega arith)) refl
        | inr ne ↦ elim (cases_eq (k / 64) (n / 64)) [
          | inl e ↦
              let other : (k % 64) ≢ (n % 64) = λ f. ne (omega arith) in
              rw (
                eq-eqb (k / 64) (n / 64) e,
                ne_eqb k n ne,
                bit_at_set_other w64 word (n % 64) (omega arith) (k % 64) other,
                has_bit-is words k,
                e,
              ) refl
          | inr f ↦ rw (ne_eqb (k / 64) (n / 64) f, ne_eqb k n ne) refl
        ]
      ])

  pub number_set-put : number_set (set words (n / 64) (bit_or word (1 * 2 ^ (n % 64) % 2 ^ 64)))
      ≡ sets.insert (number_set words) n
  number_set-put =
      number_set_same (set words (n / 64) (bit_or word (1 * 2 ^ (n % 64) % 2 ^ 64))) (sets.insert (number_set words) n)
      (λ k. put_at k
      ∙ sym (contains_insert (number_set words) n k ∙ ap (λ (b : Bool). eqb k n || b) (contains-number_set words k)))

  take_at : (k : ℕ)
      → has_bit (set words (n / 64) (bit_and word (bit_not w64 (1 * 2 ^ (n % 64) % 2 ^ 64)))) k
      ≡ (not (eqb k n) && has_bit words k)
  take_at k =
      has_bit-set words (n / 64) (bit_and word (bit_not w64 (1 * 2 ^ (n % 64) % 2 ^ 64))) k lt
      ∙ (elim (cases_eq k n) [
        | inl e ↦
            rw (e, eq-eqb (n / 64) (n / 64) refl, eq-eqb n n refl, bit_at_clear_same w64 word (n % 64) (omega arith))
            refl
        | inr ne ↦ elim (cases_eq (k / 64) (n / 64)) [
          | inl e ↦
              let other : (k % 64) ≢ (n % 64) = λ f. ne (omega arith) in
              rw (
                eq-eqb (k / 64) (n / 64) e,
                ne_eqb k n ne,
                bit_at_clear_other w64 word (n % 64) (omega arith) (k % 64) (omega arith) other,
                has_bit-is words k,
                e,
              ) refl
          | inr f ↦ rw (ne_eqb (k / 64) (n / 64) f, ne_eqb k n ne) refl
        ]
      ])

  pub number_set-take : number_set (set words (n / 64) (bit_and word (bit_not w64 (1 * 2 ^ (n % 64) % 2 ^ 64))))
      ≡ sets.remove (number_set words) n
  number_set-take =
      number_set_same (set words (n / 64) (bit_and word (bit_not w64 (1 * 2 ^ (n % 64) % 2 ^ 64))))
      (sets.remove (number_set words) n)
      (λ k. take_at k
      ∙ sym
      (contains_remove (number_set words) n k ∙ ap (λ (b : Bool). not (eqb k n) && b) (contains-number_set words k)))
