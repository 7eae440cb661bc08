-- Words that are kept for the numbers up to a limit.
use Rattle.std.proofs.Common.{◌≡◌, ℕ, zero, suc, ◌+◌, ◌-◌, ◌*◌, ◌/◌, ◌%◌, ◌^◌, ◌<◌, ◌≤◌, ◌&&◌, not, Bool, false, eqb}
use Rattle.std.proofs.Common.{List, ◌++◌, length, set, take, drop, refl, sym, ap, ◌∙◌, arith, inl, inr, eq-eqb}
use Rattle.std.specs.Prelude.{nat_le, replicate}
use Rattle.std.specs.Cmp.{nat_cmp_total}
use Rattle.std.specs.FinSet as sets
use Rattle.std.proofs.lemmas.Bool.{leb-true, ne_eqb, cases_eq, cases_lt, cases_Bool, false≢true, le-leb, lt-leb}
use Rattle.std.proofs.lemmas.Bool.{eqb-true, and_parts, or_cases}
use Rattle.std.proofs.lemmas.List.{get_or_past, get_or-replicate, length-replicate, length-set}
use Rattle.std.proofs.lemmas.Nat.Bits.{bit_at-zero, bit_at_ones, bit_at_ones_above, ones_shr}
use Rattle.lane_sieve.specs.Sets.{NumberSet, IsPart, DoMeet, has_bit, number_set, passing, members_below}
use Rattle.lane_sieve.proofs.Ranges.{passing_from, passing_upto, length-passing-le}
use Rattle.lane_sieve.proofs.Bits.{has_bit-is, has_bit-set, contains-number_set, contains_insert, contains_remove}
use Rattle.lane_sieve.proofs.Vectors.{whole_back, has_bit-zeros}
use Rattle.axiom_sets.specs.Sets.{IsWithin, IsKept}

pub kept_short : (limit : ℕ) (words : List ℕ) → IsKept limit words → length words ≤ 2 ^ 26
kept_short limit words kept = omega (arith, kept.small, kept.long)

pub put_within : (limit n : ℕ) (s : NumberSet) → IsWithin limit s → 1 ≤ n → n ≤ limit → IsWithin limit (sets.insert s n)
put_within limit n s within low high k h =
    elim (or_cases (eqb k n) (sets.contains s k) (sym (contains_insert s n k) ∙ h)) [
      | inl e ↦ let same : k ≡ n = eqb-true k n e in (omega arith, omega arith)
      | inr old ↦ within k old
    ]

pub take_within : (limit n : ℕ) (s : NumberSet) → IsWithin limit s → IsWithin limit (sets.remove s n)
take_within limit n s within k h =
    within k (and_parts (not (eqb k n)) (sets.contains s k) (sym (contains_remove s n k) ∙ h)).1

pub union_within : (limit : ℕ) (s t : NumberSet) → IsWithin limit s → IsWithin limit t → IsWithin limit (sets.union s t)
union_within limit s t within within' k h =
    elim (or_cases (sets.contains s k) (sets.contains t k) (sym (sets.contains-union nat_cmp_total s t k) ∙ h))
    [ inl old ↦ within k old | inr more ↦ within' k more ]

pub difference_within : (limit : ℕ) (s t : NumberSet) → IsWithin limit s → IsWithin limit (sets.difference s t)
difference_within limit s t within k h =
    within k
    (and_parts (sets.contains s k) (not (sets.contains t k)) (sym (sets.contains-difference nat_cmp_total s t k) ∙ h)).0

-- other words of the same length
pub kept_after : (limit : ℕ) (words words' : List ℕ) (s : NumberSet) → IsKept limit words → length words' ≡ length words
    → number_set words' ≡ s → IsWithin limit s → IsKept limit words'
kept_after limit words words' s kept same e within = record {
  small = kept.small;
  long = same ∙ kept.long;
  within = λ k h. within k (ap (λ (t : NumberSet). sets.contains t k) (sym e) ∙ h);
}

-- ---- the list of the members

outside : (limit k : ℕ) (s : NumberSet) → IsWithin limit s → limit < k → sets.contains s k ≡ false
outside limit k s within lt =
    elim (cases_Bool (sets.contains s k)) [ inr f ↦ f | inl t ↦ absurd (omega (arith, (within k t).1)) ]

pub kept-list : (limit : ℕ) (words : List ℕ) → IsKept limit words
    → members_below (number_set words) (64 * length words) ≡ members_below (number_set words) (limit + 1)
kept-list limit words kept =
    let e : 64 * length words ≡ (limit + 1) + (64 * length words - (limit + 1)) = omega (arith, kept.long) in
    let p = sets.contains (number_set words) in
    ap (passing p 0) e
    ∙ passing_upto p 0 (limit + 1) (64 * length words - (limit + 1))
    (λ k low high. outside limit k (number_set words) kept.within (omega arith))

pub kept-count : (limit : ℕ) (words : List ℕ) → IsKept limit words
    → length (members_below (number_set words) (64 * length words)) ≤ limit
kept-count limit words kept =
    let e : limit + 1 ≡ 1 + limit = omega arith in
    let p = sets.contains (number_set words) in
    let none : p 0 ≡ false =
    elim (cases_Bool (p 0)) [ inr f ↦ f | inl t ↦ absurd (omega (arith, (kept.within 0 t).0)) ] in
    let split : members_below (number_set words) (64 * length words) ≡ passing p 1 limit =
    kept-list limit words kept ∙ ap (passing p 0) e
    ∙ passing_from p 0 1 limit (λ k low high.
    let z : k ≡ 0 = omega arith in
    ap p z ∙ none) in
    omega
    (arith, ap length split, length-passing-le p 1 limit (limit + 1) (λ k low h. omega (arith, (kept.within k h).1)))

-- ---- no number

pub kept-zeros : (limit : ℕ) (words : List ℕ) → limit < 2 ^ 32 → words ≡ replicate (limit / 64 + 1) 0
    → IsKept limit words
kept-zeros limit words small e =
    record {
      small = small;
      long = ap length e ∙ length-replicate {A = ℕ} (limit / 64 + 1) 0;
      within =
          λ k h. absurd
          (false≢true
          (sym (ap (λ (ws : List ℕ). sets.contains (number_set ws) k) e
          ∙ contains-number_set (replicate (limit / 64 + 1) 0) k ∙ has_bit-zeros (limit / 64 + 1) k)
          ∙ h));
    }

-- ---- all numbers

abbrev pub filled : ℕ → List ℕ
filled limit = set (replicate (limit / 64 + 1) (2 ^ 64 - 1)) (limit / 64) ((2 ^ 64 - 1) / 2 ^ (63 - limit % 64))

last_word : (limit : ℕ) → (2 ^ 64 - 1) / 2 ^ (63 - limit % 64) ≡ 2 ^ (limit % 64 + 1) - 1
last_word limit =
    let e : 64 - (63 - limit % 64) ≡ limit % 64 + 1 = omega arith in
    ones_shr 64 (63 - limit % 64) (omega arith) ∙ ap (λ (k : ℕ). 2 ^ k - 1) e

filled_bit : (limit k : ℕ) → has_bit (filled limit) k ≡ nat_le k limit
filled_bit limit k =
    has_bit-set (replicate (limit / 64 + 1) (2 ^ 64 - 1)) (limit / 64) ((2 ^ 64 - 1) / 2 ^ (63 - limit % 64)) k
    (omega (arith, length-replicate {A = ℕ} (limit / 64 + 1) (2 ^ 64 - 1)))
    ∙ (elim (cases_eq (k / 64) (limit / 64)) [
      | inl e ↦ elim (cases_lt (k % 64) (limit % 64 + 1)) [
        | inl lt ↦
            rw (
              eq-eqb (k / 64) (limit / 64) e,
              last_word limit,
              bit_at_ones (limit % 64 + 1) (k % 64) lt,
              le-leb k limit (omega arith),
            ) refl
        | inr ge ↦
            rw (
              eq-eqb (k / 64) (limit / 64) e,
              last_word limit,
              bit_at_ones_above (limit % 64 + 1) (k % 64) ge,
              lt-leb k limit (omega arith),
            ) refl
      ]
      | inr ne ↦ elim (cases_lt (k / 64) (limit / 64)) [
        | inl lt ↦
            rw (
              ne_eqb (k / 64) (limit / 64) ne,
              has_bit-is,
              get_or-replicate (limit / 64 + 1) (k / 64) (2 ^ 64 - 1) 0 (omega arith),
              bit_at_ones 64 (k % 64) (omega arith),
              le-leb k limit (omega arith),
            ) refl
        | inr ge ↦
            rw (
              ne_eqb (k / 64) (limit / 64) ne,
              has_bit-is,
              get_or_past (replicate (limit / 64 + 1) (2 ^ 64 - 1)) (k / 64) 0
                  (omega (arith, length-replicate {A = ℕ} (limit / 64 + 1) (2 ^ 64 - 1))),
              bit_at-zero (k % 64),
              lt-leb k limit (omega arith),
            ) refl
      ]
    ])

not_zero : (k : ℕ) → not (eqb k 0) ≡ nat_le 1 k
not_zero zero = refl
not_zero (suc k) = rw (ne_eqb (suc k) 0 (omega arith)) (sym (le-leb 1 (suc k) (omega arith)))

-- the words of all numbers from 0 to the limit, without 0
pub filled-contains : (limit : ℕ) (words : List ℕ) → number_set words ≡ sets.remove (number_set (filled limit)) 0
    → (k : ℕ) → sets.contains (number_set words) k ≡ (nat_le 1 k && nat_le k limit)
filled-contains limit words e k =
    ap (λ (s : NumberSet). sets.contains s k) e ∙ contains_remove (number_set (filled limit)) 0 k
    ∙ ap (λ (b : Bool). not (eqb k 0) && b) (contains-number_set (filled limit) k ∙ filled_bit limit k)
    ∙ ap (λ (b : Bool). b && nat_le k limit) (not_zero k)

pub kept-filled : (limit : ℕ) (words : List ℕ) → limit < 2 ^ 32 → length words ≡ limit / 64 + 1
    → number_set words ≡ sets.remove (number_set (filled limit)) 0 → IsKept limit words
kept-filled limit words small long e =
    record {
      small = small;
      long = long;
      within = λ k h.
          let both = and_parts (nat_le 1 k) (nat_le k limit) (sym (filled-contains limit words e k) ∙ h) in (
            leb-true 1 k both.0,
            leb-true k limit both.1,
          );
    }

-- ---- what the words say of the sets

pub same_length : (limit limit' : ℕ) (xs ys : List ℕ) → IsKept limit xs → IsKept limit' ys → limit ≡ limit'
    → length xs ≡ length ys
same_length limit limit' xs ys kept kept' e = kept.long ∙ ap (λ (n : ℕ). n / 64 + 1) e ∙ sym kept'.long

pub part_along : (s t s' t' : NumberSet) → s ≡ s' → t ≡ t' → IsPart s t → IsPart s' t'
part_along s t s' t' e e' part k h =
    ap (λ (u : NumberSet). sets.contains u k) (sym e') ∙ part k (ap (λ (u : NumberSet). sets.contains u k) e ∙ h)

pub meet_along : (s t s' t' : NumberSet) → s ≡ s' → t ≡ t' → DoMeet s t → DoMeet s' t'
meet_along s t s' t' e e' meet = (
  meet.0,
  ap (λ (u : NumberSet). sets.contains u meet.0) (sym e) ∙ meet.1,
  ap (λ (u : NumberSet). sets.contains u meet.0) (sym e') ∙ meet.2,
)

-- the words of `full`, as they stand in their vector once 0 is taken out
module _ (limit len : ℕ) (items before after : List ℕ) (made : items ≡ replicate (limit / 64 + 1) (2 ^ 64 - 1))
    (counted : len ≡ length items)
    (marked : before ≡ set items (limit / 64) ((2 ^ 64 - 1) / 2 ^ (63 - limit % 64)))
    (same : length after ≡ length before) (taken : number_set after ≡ sets.remove (number_set before) 0) where
  abbrev pub kept_words : List ℕ
  kept_words = take len (after ++ drop (length after) (set items (limit / 64) ((2 ^ 64 - 1) / 2 ^ (63 - limit % 64))))

  back : kept_words ≡ after
  back =
      whole_back len after (set items (limit / 64) ((2 ^ 64 - 1) / 2 ^ (63 - limit % 64))) (same ∙ ap length marked)
      (counted ∙ sym (length-set items (limit / 64) ((2 ^ 64 - 1) / 2 ^ (63 - limit % 64))))

  without_zero : number_set kept_words ≡ sets.remove (number_set (filled limit)) 0
  without_zero =
      ap number_set back ∙ taken
      ∙ ap (λ (ws : List ℕ). sets.remove (number_set ws) 0)
      (marked ∙ ap (λ (ws : List ℕ). set ws (limit / 64) ((2 ^ 64 - 1) / 2 ^ (63 - limit % 64))) made)

  pub full_kept : limit < 2 ^ 32 → IsKept limit kept_words
  full_kept small =
      kept-filled limit kept_words small
      (ap length back ∙ same ∙ ap length marked ∙ length-set items (limit / 64) ((2 ^ 64 - 1) / 2 ^ (63 - limit % 64))
      ∙ ap length made ∙ length-replicate {A = ℕ} (limit / 64 + 1) (2 ^ 64 - 1))
      without_zero

  pub full_contains : (k : ℕ) → sets.contains (number_set kept_words) k ≡ (nat_le 1 k && nat_le k limit)
  full_contains = filled-contains limit kept_words without_zero
