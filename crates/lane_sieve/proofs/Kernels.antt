-- What the tests of words, place by place, say of the sets.
use Rattle.std.proofs.Common.{◌≡◌, ℕ, zero, suc, ◌+◌, ◌-◌, ◌*◌, ◌≤◌, ◌/◌, ◌%◌, ◌^◌, ◌<◌, ◌&&◌, ◌||◌, not, Bool, true}
use Rattle.std.proofs.Common.{false, eqb, List, [], ◌∷◌, ◌++◌, length, get_or, take, drop, refl, sym, ap, ◌∙◌, arith}
use Rattle.std.proofs.Common.{inl, inr, eq-eqb, max, min}
use Rattle.std.specs.Prelude.{bit_and, bit_or}
use Rattle.std.specs.Int.{bit_at, bit_not, w64, trailing_zeros}
use Rattle.std.specs.Simd.Lanes.{zip2}
use Rattle.std.specs.Cmp.{nat_cmp_total}
use Rattle.std.specs.FinSet as sets
use Rattle.std.proofs.Math.Bool.{and-true, and-false}
use Rattle.std.proofs.lemmas.Bool.{ne_eqb, cases_eq, cases_lt, cases_Bool, false≢true, eqb-true, eqb-false, and_parts}
use Rattle.std.proofs.lemmas.List.{get_or_past, get_or_append_left, get_or-append_right, get_or-take, get_or-drop}
use Rattle.std.proofs.lemmas.List.{length-take-le}
use Rattle.std.proofs.lemmas.Simd.{get_or-zip2, length-zip2}
use Rattle.std.proofs.lemmas.Nat.{and_le_l}
use Rattle.std.proofs.lemmas.Nat.Bits.{bit_at-zero, bit_at-lt, bit_at_and, bit_at_or, bit_at_not, bit_at-trailing_zeros}
use Rattle.std.proofs.lemmas.Nat.Bits.{same_from_bits}
use Rattle.lane_sieve.specs.Words.{each_pair, is_part, is_apart, is_subset, do_meet}
use Rattle.lane_sieve.specs.Sets.{has_bit, number_set}
use Rattle.lane_sieve.proofs.Bits.{has_bit-is, has_bit-within, contains-number_set, number_set_same}
use Rattle.lane_sieve.proofs.Next.{contains-at, one-within}

-- ---- a test at each place

pub each_pair-at : (t : ℕ → ℕ → Bool) (xs ys : List ℕ) → length xs ≡ length ys → each_pair t xs ys ≡ true → (i : ℕ)
    → i < length xs → t (get_or xs i 0) (get_or ys i 0) ≡ true
each_pair-at t [] ys e h i lt = absurd (omega arith)
each_pair-at t (x ∷ xs) [] e h i lt = absurd (omega arith)
each_pair-at t (x ∷ xs) (y ∷ ys) e h zero lt = (and_parts (t x y) (each_pair t xs ys) h).0
each_pair-at t (x ∷ xs) (y ∷ ys) e h (suc i) lt =
    each_pair-at t xs ys (omega arith) (and_parts (t x y) (each_pair t xs ys) h).1 i (omega arith)

pub each_pair-all : (t : ℕ → ℕ → Bool) (xs ys : List ℕ) → length xs ≡ length ys
    → ((i : ℕ) → i < length xs → t (get_or xs i 0) (get_or ys i 0) ≡ true) → each_pair t xs ys ≡ true
each_pair-all t [] ys e h = refl
each_pair-all t (x ∷ xs) [] e h = refl
each_pair-all t (x ∷ xs) (y ∷ ys) e h =
    let here : t x y ≡ true = h 0 (omega arith) in
    rw here (each_pair-all t xs ys (omega arith) (λ i lt. h (suc i) (omega arith)))

pub each_pair-some : (t : ℕ → ℕ → Bool) (xs ys : List ℕ) → length xs ≡ length ys → each_pair t xs ys ≡ false
    → (i : ℕ) × (i < length xs) × (t (get_or xs i 0) (get_or ys i 0) ≡ false)
each_pair-some t [] ys e h = absurd (false≢true (sym h))
each_pair-some t (x ∷ xs) [] e h = absurd (false≢true (sym h))
each_pair-some t (x ∷ xs) (y ∷ ys) e h =
    elim (cases_Bool (t x y)) [
      | inr f ↦ (0, omega arith, f)
      | inl here ↦
          let more =
          each_pair-some t xs ys (omega arith) (ap (λ (b : Bool). b && each_pair t xs ys) (sym here) ∙ h) in (
            suc more.0,
            omega (arith, more.1),
            more.2,
          )
    ]

-- ---- two words

part_bits : (x y j : ℕ) → is_part x y ≡ true → bit_at x j ≡ 1 → bit_at y j ≡ 1
part_bits x y j part one =
    let e : bit_at (bit_and x y) j ≡ bit_at x j = ap (λ (w : ℕ). bit_at w j) (eqb-true (bit_and x y) x part) in
    omega (arith, e, bit_at_and x y j, bit_at-lt y j)

part_from : (x y : ℕ) → ((j : ℕ) → bit_at x j ≡ 1 → bit_at y j ≡ 1) → is_part x y ≡ true
part_from x y bits =
    eq-eqb (bit_and x y) x
    (same_from_bits (bit_and x y) x
    (λ j. bit_at_and x y j ∙ (elim (cases_eq (bit_at x j) 1) [
      | inl e ↦ let o : bit_at y j ≡ 1 = bits j e in omega arith
      | inr ne ↦ let z : bit_at x j ≡ 0 = omega (arith, bit_at-lt x j) in omega arith
    ])))

-- ---- the sets of two lists of words

one : (words : List ℕ) (k : ℕ) → sets.contains (number_set words) k ≡ true
    → (k / 64 < length words) × (bit_at (get_or words (k / 64) 0) (k % 64) ≡ 1)
one words k h =
    let bit : has_bit words k ≡ true = sym (contains-number_set words k) ∙ h in (
      omega (arith, has_bit-within words k bit),
      eqb-true (bit_at (get_or words (k / 64) 0) (k % 64)) 1 (sym (has_bit-is words k) ∙ bit),
    )

from_one : (words : List ℕ) (k : ℕ) → bit_at (get_or words (k / 64) 0) (k % 64) ≡ 1
    → sets.contains (number_set words) k ≡ true
from_one words k e =
    contains-number_set words k ∙ has_bit-is words k ∙ eq-eqb (bit_at (get_or words (k / 64) 0) (k % 64)) 1 e

module _ (xs ys : List ℕ) (same : length xs ≡ length ys) where
  pub subset_gives : is_subset xs ys ≡ true → (k : ℕ) → sets.contains (number_set xs) k ≡ true
      → sets.contains (number_set ys) k ≡ true
  subset_gives part k h =
      let at = one xs k h in
      from_one ys k
      (part_bits (get_or xs (k / 64) 0) (get_or ys (k / 64) 0) (k % 64)
      (each_pair-at is_part xs ys same part (k / 64) at.0) at.1)

  pub subset_from : ((i : ℕ) → get_or xs i 0 < 2 ^ 64)
      → ((k : ℕ) → sets.contains (number_set xs) k ≡ true → sets.contains (number_set ys) k ≡ true)
      → is_subset xs ys ≡ true
  subset_from fits within =
      each_pair-all is_part xs ys same
      (λ i lt. part_from (get_or xs i 0) (get_or ys i 0)
      (λ j bit.
      let low : j < 64 = one-within (get_or xs i 0) j (fits i) bit in
      eqb-true (bit_at (get_or ys i 0) j) 1
      (sym (contains-at ys i j low (bit_at (get_or ys i 0) j) refl)
      ∙ within (64 * i + j) (contains-at xs i j low 1 bit))))

  pub meet_gives : ((i : ℕ) → get_or xs i 0 < 2 ^ 64) → do_meet xs ys ≡ true
      → (k : ℕ) × (sets.contains (number_set xs) k ≡ true) × (sets.contains (number_set ys) k ≡ true)
  meet_gives fits meet =
      let apart : each_pair is_apart xs ys ≡ false = elim (cases_Bool (each_pair is_apart xs ys))
      [ inr f ↦ f | inl t ↦ absurd (false≢true (ap not (sym t) ∙ meet)) ] in
      let at = each_pair-some is_apart xs ys same apart in
      let x = get_or xs at.0 0 in
      let y = get_or ys at.0 0 in
      let ne = eqb-false (bit_and x y) 0 at.2 in
      let some : 0 < bit_and x y =
      elim (cases_lt 0 (bit_and x y)) [ inl lt ↦ lt | inr none ↦ absurd (ne (omega arith)) ] in
      let fit : bit_and x y < 2 ^ 64 = omega (arith, and_le_l x y, fits at.0) in
      let low = bit_at-trailing_zeros w64 (bit_and x y) some fit in
      let j = trailing_zeros w64 (bit_and x y) in
      let both : 1 ≡ min (bit_at x j) (bit_at y j) = sym low.1 ∙ bit_at_and x y j in
      let one_x : bit_at x j ≡ 1 = omega (arith, both, bit_at-lt x j, bit_at-lt y j) in
      let one_y : bit_at y j ≡ 1 = omega (arith, both, bit_at-lt x j, bit_at-lt y j) in (
        64 * at.0 + j,
        contains-at xs at.0 j low.0 1 one_x,
        contains-at ys at.0 j low.0 1 one_y,
      )

  pub meet_from : (k : ℕ) → sets.contains (number_set xs) k ≡ true → sets.contains (number_set ys) k ≡ true
      → do_meet xs ys ≡ true
  meet_from k in_xs in_ys =
      let at = one xs k in_xs in
      let at' = one ys k in_ys in
      let x = get_or xs (k / 64) 0 in
      let y = get_or ys (k / 64) 0 in
      elim (cases_Bool (each_pair is_apart xs ys)) [
        | inr f ↦ ap not f
        | inl t ↦
            let none : bit_and x y ≡ 0 = eqb-true (bit_and x y) 0 (each_pair-at is_apart xs ys same t (k / 64) at.0) in
            let z : bit_at (bit_and x y) (k % 64) ≡ 0 = ap (λ (w : ℕ). bit_at w (k % 64)) none ∙ bit_at-zero (k % 64) in
            absurd (omega (arith, z, bit_at_and x y (k % 64), at.1, at'.1))
      ]

or_bits : (a b : ℕ) → a < 2 → b < 2 → eqb (max a b) 1 ≡ (eqb a 1 || eqb b 1)
or_bits a b ha hb =
    elim (cases_eq a 1) [
      | inl e ↦ let m : max a b ≡ 1 = omega arith in rw (eq-eqb a 1 e, eq-eqb (max a b) 1 m) refl
      | inr ne ↦ let m : max a b ≡ b = omega arith in rw (ne_eqb a 1 ne, m) refl
    ]

-- words that are, place by place, the unions of two lists' words
pub number_set-union : (ws xs ys : List ℕ) → ((i : ℕ) → get_or ws i 0 ≡ bit_or (get_or xs i 0) (get_or ys i 0))
    → number_set ws ≡ sets.union (number_set xs) (number_set ys)
number_set-union ws xs ys each =
    number_set_same ws (sets.union (number_set xs) (number_set ys))
    (λ k.
    let x = get_or xs (k / 64) 0 in
    let y = get_or ys (k / 64) 0 in
    let left : has_bit ws k ≡ (eqb (bit_at x (k % 64)) 1 || eqb (bit_at y (k % 64)) 1) =
    has_bit-is ws k ∙ ap (λ (w : ℕ). eqb (bit_at w (k % 64)) 1) (each (k / 64))
    ∙ ap (λ (b : ℕ). eqb b 1) (bit_at_or x y (k % 64))
    ∙ or_bits (bit_at x (k % 64)) (bit_at y (k % 64)) (bit_at-lt x (k % 64)) (bit_at-lt y (k % 64)) in
    let right : sets.contains (sets.union (number_set xs) (number_set ys)) k
    ≡ (eqb (bit_at x (k % 64)) 1 || eqb (bit_at y (k % 64)) 1) =
    sets.contains-union nat_cmp_total (number_set xs) (number_set ys) k
    ∙ ap (λ (b : Bool). b || sets.contains (number_set ys) k) (contains-number_set xs k ∙ has_bit-is xs k)
    ∙ ap (λ (b : Bool). eqb (bit_at x (k % 64)) 1 || b) (contains-number_set ys k ∙ has_bit-is ys k) in
    left ∙ sym right)

or-zero : (x : ℕ) → bit_or x 0 ≡ x
or-zero x =
    same_from_bits (bit_or x 0) x
    (λ j.
    let z : bit_at 0 j ≡ 0 = bit_at-zero j in
    bit_at_or x 0 j ∙ omega arith)

-- the first words of xs are united with ys
pub united_at : (xs ys ws : List ℕ) (i : ℕ) → length ys ≤ length xs
    → ws ≡ zip2 bit_or (take (length ys) xs) ys ++ drop (length ys) xs
    → get_or ws i 0 ≡ bit_or (get_or xs i 0) (get_or ys i 0)
united_at xs ys ws i short e =
    let n = length ys in
    let long : length (take n xs) ≡ n = length-take-le n xs short in
    let zipped : length (zip2 bit_or (take n xs) ys) ≡ n = length-zip2 bit_or (take n xs) ys long ∙ long in
    ap (λ (vs : List ℕ). get_or vs i 0) e
    ∙ (elim (cases_lt i n) [
      | inl lt ↦
          get_or_append_left (zip2 bit_or (take n xs) ys) (drop n xs) 0 i (omega arith)
          ∙ get_or-zip2 bit_or (take n xs) ys i 0 0 0 (omega arith) lt
          ∙ ap (λ (x : ℕ). bit_or x (get_or ys i 0)) (get_or-take n xs i 0 lt)
      | inr ge ↦
          let back : n + (i - n) ≡ i = omega arith in
          get_or-append_right (zip2 bit_or (take n xs) ys) (drop n xs) n i 0 zipped ge ∙ get_or-drop n xs (i - n) 0
          ∙ ap (λ (k : ℕ). get_or xs k 0) back
          ∙ sym (ap (bit_or (get_or xs i 0)) (get_or_past ys i 0 ge) ∙ or-zero (get_or xs i 0))
    ])

and_not_bits : (a b : ℕ) → a < 2 → b < 2 → eqb (min a (1 - b)) 1 ≡ (eqb a 1 && not (eqb b 1))
and_not_bits a b ha hb =
    elim (cases_eq b 1) [
      | inl e ↦
          let m : min a (1 - b) ≡ 0 = omega arith in
          rw (m, eq-eqb b 1 e) (sym (and-false (eqb a 1)))
      | inr ne ↦
          let m : min a (1 - b) ≡ a = omega arith in
          rw (m, ne_eqb b 1 ne) (sym (and-true (eqb a 1)))
    ]

-- words that are, place by place, what one list's words have and another's have not
pub number_set-difference : (ws xs ys : List ℕ) → ((i : ℕ) → get_or ys i 0 < 2 ^ 64)
    → ((i : ℕ) → get_or ws i 0 ≡ bit_and (get_or xs i 0) (bit_not w64 (get_or ys i 0)))
    → number_set ws ≡ sets.difference (number_set xs) (number_set ys)
number_set-difference ws xs ys fits each =
    number_set_same ws (sets.difference (number_set xs) (number_set ys))
    (λ k.
    let j = k % 64 in
    let x = get_or xs (k / 64) 0 in
    let y = get_or ys (k / 64) 0 in
    let turned : bit_at (bit_not w64 y) j ≡ 1 - bit_at y j = bit_at_not w64 y j (fits (k / 64)) (omega arith) in
    let left : has_bit ws k ≡ (eqb (bit_at x j) 1 && not (eqb (bit_at y j) 1)) =
    has_bit-is ws k ∙ ap (λ (w : ℕ). eqb (bit_at w j) 1) (each (k / 64))
    ∙ ap (λ (b : ℕ). eqb b 1) (bit_at_and x (bit_not w64 y) j ∙ ap (min (bit_at x j)) turned)
    ∙ and_not_bits (bit_at x j) (bit_at y j) (bit_at-lt x j) (bit_at-lt y j) in
    let right : sets.contains (sets.difference (number_set xs) (number_set ys)) k
    ≡ (eqb (bit_at x j) 1 && not (eqb (bit_at y j) 1)) =
    sets.contains-difference nat_cmp_total (number_set xs) (number_set ys) k
    ∙ ap (λ (b : Bool). b && not (sets.contains (number_set ys) k)) (contains-number_set xs k ∙ has_bit-is xs k)
    ∙ ap (λ (b : Bool). eqb (bit_at x j) 1 && not b) (contains-number_set ys k ∙ has_bit-is ys k) in
    left ∙ sym right)
