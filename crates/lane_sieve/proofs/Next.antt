-- The numbers in one word, and the next number of a set.
use Rattle.std.proofs.Common.{◌≡◌, ℕ, zero, suc, ◌+◌, ◌-◌, ◌*◌, ◌/◌, ◌%◌, ◌^◌, ◌<◌, ◌≤◌, Bool, true, false, eqb, List}
use Rattle.std.proofs.Common.{◌++◌, length, length-append, get_or, refl, sym, ap, ◌∙◌, arith, inl, inr, Option, Some}
use Rattle.std.proofs.Common.{None}
use Rattle.std.specs.Prelude.{bit_and, IfNone, count_ones}
use Rattle.std.specs.Int.{bit_at, w64, trailing_zeros}
use Rattle.std.specs.FinSet as sets
use Rattle.std.proofs.lemmas.Bool.{ne_eqb, cases_eq, cases_lt}
use Rattle.std.proofs.lemmas.Nat.{pow-add, ones-le, shr-shr, shr_le, le-div, div_below, pow_pos}
use Rattle.std.proofs.lemmas.Nat.Bits.{bit_at-zero, bit_at_lowest, bit_at-suc, shr_and_one, bit_at-trailing_zeros}
use Rattle.std.proofs.lemmas.Nat.Bits.{bit_at_above}
use lib.Count.{ones_step}
use Rattle.lane_sieve.specs.Sets.{number_set, passing, members_below}
use Rattle.lane_sieve.proofs.Ranges.{passing-add}
use Rattle.lane_sieve.proofs.Bits.{has_bit-is, has_bit-at, has_bit-past, contains-number_set}

pub if_none : {A : Type 0} (o : Option A) (P : Type 0) → P → IfNone o P
if_none None P p = p
if_none (Some x) P p = tt

-- the bit that a shift brings down
pub contains-shr : (words : List ℕ) (k : ℕ)
    → eqb (bit_and (get_or words (k / 64) 0 / 2 ^ (k % 64)) 1) 1 ≡ sets.contains (number_set words) k
contains-shr words k =
    ap (λ (b : ℕ). eqb b 1) (shr_and_one (get_or words (k / 64) 0) (k % 64)) ∙ sym (has_bit-is words k)
    ∙ sym (contains-number_set words k)

pub contains-past : (words : List ℕ) (k : ℕ) → 64 * length words ≤ k → sets.contains (number_set words) k ≡ false
contains-past words k h = contains-number_set words k ∙ has_bit-past words k h

pub contains-at : (words : List ℕ) (i j : ℕ) → j < 64 → (b : ℕ) → bit_at (get_or words i 0) j ≡ b
    → sets.contains (number_set words) (64 * i + j) ≡ eqb b 1
contains-at words i j h b e =
    contains-number_set words (64 * i + j) ∙ has_bit-at words i j h ∙ ap (λ (c : ℕ). eqb c 1) e

-- a number by its word and its place in it
pub contains_in : (words : List ℕ) (i k : ℕ) → 64 * i ≤ k → k < 64 * (i + 1) → (b : ℕ)
    → bit_at (get_or words i 0) (k - 64 * i) ≡ b → sets.contains (number_set words) k ≡ eqb b 1
contains_in words i k low high b e =
    let split : k ≡ 64 * i + (k - 64 * i) = omega arith in
    ap (sets.contains (number_set words)) split ∙ contains-at words i (k - 64 * i) (omega arith) b e

bit_at-shr : (w j t : ℕ) → bit_at (w / 2 ^ j) t ≡ bit_at w (j + t)
bit_at-shr w j t = ap (λ (x : ℕ). x % 2) (shr-shr w j t)

pub one-within : (w j : ℕ) → w < 2 ^ 64 → bit_at w j ≡ 1 → j < 64
one-within w j fits one =
    elim (cases_lt j 64) [
      | inl lt ↦ lt
      | inr ge ↦ let z : bit_at w j ≡ 0 = bit_at_above w 64 j fits ge in absurd (omega arith)
    ]

shr-fits : (w j : ℕ) → w < 2 ^ 64 → w / 2 ^ j < 2 ^ 64
shr-fits w j h = omega (arith, shr_le w j)

-- ---- in the word of `from`

module _ (words : List ℕ) (from : ℕ) (fits : get_or words (from / 64) 0 < 2 ^ 64) where
  abbrev pub rest : ℕ
  rest = get_or words (from / 64) 0 / 2 ^ (from % 64)

  rest_at : (k : ℕ) → from ≤ k → bit_at (get_or words (from / 64) 0) (k - 64 * (from / 64)) ≡ bit_at rest (k - from)
  rest_at k h =
      let e : k - 64 * (from / 64) ≡ from % 64 + (k - from) = omega arith in
      ap (bit_at (get_or words (from / 64) 0)) e ∙ sym (bit_at-shr (get_or words (from / 64) 0) (from % 64) (k - from))

  module _ (some : 0 < rest) where
    lowest : (trailing_zeros w64 rest < 64) × (bit_at rest (trailing_zeros w64 rest) ≡ 1)
        × ((i : ℕ) → i < trailing_zeros w64 rest → bit_at rest i ≡ 0)
    lowest = bit_at-trailing_zeros w64 rest some (shr-fits (get_or words (from / 64) 0) (from % 64) fits)

    in_word : from % 64 + trailing_zeros w64 rest < 64
    in_word =
        one-within (get_or words (from / 64) 0) (from % 64 + trailing_zeros w64 rest) fits
        (sym (bit_at-shr (get_or words (from / 64) 0) (from % 64) (trailing_zeros w64 rest)) ∙ lowest.1)

    pub here-within : from + trailing_zeros w64 rest < 64 * (from / 64 + 1)
    here-within = omega (arith, in_word)

    pub here-member : sets.contains (number_set words) (from + trailing_zeros w64 rest) ≡ true
    here-member =
        let e : from + trailing_zeros w64 rest - from ≡ trailing_zeros w64 rest = omega arith in
        contains_in words (from / 64) (from + trailing_zeros w64 rest) (omega arith) here-within 1
        (rest_at (from + trailing_zeros w64 rest) (omega arith) ∙ ap (bit_at rest) e ∙ lowest.1)

    pub here-least : (k : ℕ) → from ≤ k → k < from + trailing_zeros w64 rest
        → sets.contains (number_set words) k ≡ false
    here-least k low high =
        contains_in words (from / 64) k (omega arith) (omega (arith, here-within)) 0
        (rest_at k low ∙ lowest.2 (k - from) (omega arith))

  pub here-none : rest ≡ 0 → (k : ℕ) → from ≤ k → k < 64 * (from / 64 + 1) → sets.contains (number_set words) k ≡ false
  here-none none k low high =
      contains_in words (from / 64) k (omega arith) high 0
      (rest_at k low ∙ ap (λ (w : ℕ). bit_at w (k - from)) none ∙ bit_at-zero (k - from))

-- ---- in the words behind

pub none_in_zeros : (words : List ℕ) (i j : ℕ) → ((l : ℕ) → i ≤ l → l < j → get_or words l 0 ≡ 0) → (k : ℕ) → 64 * i ≤ k
    → k < 64 * j → sets.contains (number_set words) k ≡ false
none_in_zeros words i j zeros k low high =
    let z : get_or words (k / 64) 0 ≡ 0 = zeros (k / 64) (omega arith) (omega arith) in
    contains_in words (k / 64) k (omega arith) (omega arith) 0
    (ap (λ (w : ℕ). bit_at w (k - 64 * (k / 64))) z ∙ bit_at-zero (k - 64 * (k / 64)))

module _ (words : List ℕ) (i : ℕ) (fits : get_or words i 0 < 2 ^ 64) (some : 0 < get_or words i 0) where
  first : (trailing_zeros w64 (get_or words i 0) < 64)
      × (bit_at (get_or words i 0) (trailing_zeros w64 (get_or words i 0)) ≡ 1)
      × ((j : ℕ) → j < trailing_zeros w64 (get_or words i 0) → bit_at (get_or words i 0) j ≡ 0)
  first = bit_at-trailing_zeros w64 (get_or words i 0) some fits

  pub word-member : sets.contains (number_set words) (64 * i + trailing_zeros w64 (get_or words i 0)) ≡ true
  word-member = contains-at words i (trailing_zeros w64 (get_or words i 0)) first.0 1 first.1

  pub word-least : (k : ℕ) → 64 * i ≤ k → k < 64 * i + trailing_zeros w64 (get_or words i 0)
      → sets.contains (number_set words) k ≡ false
  word-least k low high = contains_in words i k low (omega (arith, first.0)) 0 (first.2 (k - 64 * i) (omega arith))

-- ---- the greatest number

module _ (words : List ℕ) (i top : ℕ) (low : 2 ^ top ≤ get_or words i 0) (high : get_or words i 0 < 2 * 2 ^ top)
    (within : top < 64) where
  pub top-member : sets.contains (number_set words) (64 * i + top) ≡ true
  top-member =
      let one : get_or words i 0 / 2 ^ top ≡ 1 = omega (
        arith,
        le-div 1 (get_or words i 0) (2 ^ top) (pow_pos top) (omega arith),
        div_below (get_or words i 0) (2 ^ top) 2 (pow_pos top) high,
      ) in
      contains-at words i top within 1 (ap (λ (x : ℕ). x % 2) one)

  pub top-greatest : length words ≡ i + 1 → (k : ℕ) → 64 * i + top < k → sets.contains (number_set words) k ≡ false
  top-greatest long k above =
      elim (cases_lt k (64 * (i + 1))) [
        | inl lt ↦
            let fits : get_or words i 0 < 2 ^ (top + 1) = rw pow-more high in
            contains_in words i k (omega arith) lt 0
            (bit_at_above (get_or words i 0) (top + 1) (k - 64 * i) fits (omega arith))
        | inr ge ↦ contains-past words k (omega arith)
      ]
    where
      pow-more : 2 ^ (top + 1) ≡ 2 * 2 ^ top
      pow-more = omega (arith, pow-add 2 top 1)

-- ---- how many numbers a word has

pub length-passing-ones : (p : ℕ → Bool) (a n w : ℕ) → w < 2 ^ n → ((j : ℕ) → j < n → p (a + j) ≡ eqb (bit_at w j) 1)
    → length (passing p a n) ≡ count_ones w
unfolding passing
length-passing-ones p a zero w fits bits = omega (arith, ones-le 0 w fits)
length-passing-ones p a (suc n) w fits bits =
    let half : w / 2 < 2 ^ n = omega arith in
    let shift : a + 0 ≡ a = omega arith in
    let more : length (passing p (a + 1) n) ≡ count_ones (w / 2) =
    length-passing-ones p (a + 1) n (w / 2) half
    (λ j lt.
    let e : a + 1 + j ≡ a + suc j = omega arith in
    ap p e ∙ bits (suc j) (omega arith) ∙ ap (λ (b : ℕ). eqb b 1) (bit_at-suc w j)) in
    let here : p a ≡ eqb (w % 2) 1 =
    ap p (sym shift) ∙ bits 0 (omega arith) ∙ ap (λ (b : ℕ). eqb b 1) (bit_at_lowest w) in
    elim (cases_eq (w % 2) 1) [
      | inl e ↦ rw (here, e) (omega (arith, more, ones_step w))
      | inr ne ↦ rw (here, ne_eqb (w % 2) 1 ne) (omega (arith, more, ones_step w))
    ]

-- one word more is counted
pub count_more : (words : List ℕ) (i count : ℕ) → get_or words i 0 < 2 ^ 64
    → count ≡ length (members_below (number_set words) (64 * i))
    → count + count_ones (get_or words i 0) ≡ length (members_below (number_set words) (64 * (i + 1)))
count_more words i count fits before =
    let e : 64 * (i + 1) ≡ 64 * i + 64 = omega arith in
    let z : 0 + 64 * i ≡ 64 * i = omega arith in
    let p = sets.contains (number_set words) in
    let split : passing p 0 (64 * (i + 1)) ≡ passing p 0 (64 * i) ++ passing p (64 * i) 64 =
    ap (passing p 0) e ∙ passing-add p 0 (64 * i) 64 ∙ ap (λ (x : ℕ). passing p 0 (64 * i) ++ passing p x 64) z in
    let word : length (passing p (64 * i) 64) ≡ count_ones (get_or words i 0) =
    length-passing-ones p (64 * i) 64 (get_or words i 0) fits
    (λ j lt. contains-at words i j lt (bit_at (get_or words i 0) j) refl) in
    sym (ap length split ∙ length-append (passing p 0 (64 * i)) (passing p (64 * i) 64) ∙ omega arith)
