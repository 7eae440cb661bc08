-- The order of two sets by the first number at which they differ.
use Rattle.std.proofs.Common.{◌≡◌, ℕ, suc, ◌+◌, ◌-◌, ◌*◌, ◌/◌, ◌%◌, ◌^◌, ◌<◌, true, false, eqb, List, length, get_or}
use Rattle.std.proofs.Common.{refl, sym, ap, ◌∙◌, arith, inl, inr}
use Rattle.std.specs.Prelude.{bit_xor, bit_and}
use Rattle.std.specs.Int.{bit_at, w64, trailing_zeros}
use Rattle.std.specs.FinSet as sets
use Rattle.std.specs.Ordering.{nat_cmp, MatchOrdering, ordering_reverse}
use Rattle.std.specs.Cmp.Lexicographic.{slice_cmp, nat_list_cmp_total}
use Rattle.std.specs.declared.cmp.Ordering.{Ordering}
use Rattle.std.specs.declared.cmp.Ordering.TheVariants.{Less, Equal, Greater}
use Rattle.std.proofs.lemmas.Bool.{cases_lt}
use Rattle.std.proofs.lemmas.Cmp.{tied_itself}
use Rattle.std.proofs.lemmas.Nat.{xor_lt}
use Rattle.std.proofs.lemmas.Nat.Bits.{shr_and_one, bit_at-zero, bit_at-lt, bit_at_xor, bit_at-trailing_zeros}
use Rattle.std.proofs.lemmas.Nat.Bits.{same_from_bits}
use Rattle.lane_sieve.specs.Sets.{NumberSet, number_set, members_below, words_cmp}
use Rattle.lane_sieve.proofs.Ranges.{first_before, first_behind}
use Rattle.lane_sieve.proofs.Bits.{has_bit-is, contains-number_set}
use Rattle.lane_sieve.proofs.Next.{contains_in, contains-at}

-- ---- where the words differ first

xor_same : (a b : ℕ) → a < 2 → b < 2 → (a + b) % 2 ≡ 0 → a ≡ b
xor_same a b ha hb h = omega arith

pub xor_none : (x y : ℕ) → bit_xor x y ≡ 0 → x ≡ y
xor_none x y h =
    same_from_bits x y
    (λ j. xor_same (bit_at x j) (bit_at y j) (bit_at-lt x j) (bit_at-lt y j)
    (sym (bit_at_xor x y j) ∙ ap (λ (w : ℕ). bit_at w j) h ∙ bit_at-zero j))

pub xor_some : (x y : ℕ) → (x ≡ y → ⊥) → 0 < bit_xor x y
xor_some x y differ =
    elim (cases_lt 0 (bit_xor x y)) [ inl lt ↦ lt | inr none ↦ absurd (differ (xor_none x y (omega arith))) ]

contains-same : (xs ys : List ℕ) (k : ℕ) → get_or xs (k / 64) 0 ≡ get_or ys (k / 64) 0
    → sets.contains (number_set xs) k ≡ sets.contains (number_set ys) k
contains-same xs ys k e =
    contains-number_set xs k ∙ has_bit-is xs k ∙ ap (λ (w : ℕ). eqb (bit_at w (k % 64)) 1) e
    ∙ sym (contains-number_set ys k ∙ has_bit-is ys k)

module _ (xs ys : List ℕ) (i : ℕ) (same : (j : ℕ) → j < i → get_or xs j 0 ≡ get_or ys j 0)
    (differ : get_or xs i 0 ≡ get_or ys i 0 → ⊥)
    (fits : get_or xs i 0 < 2 ^ 64) (fits' : get_or ys i 0 < 2 ^ 64) where
  abbrev bit : ℕ
  bit = trailing_zeros w64 (bit_xor (get_or xs i 0) (get_or ys i 0))

  lowest : (bit < 64) × (bit_at (bit_xor (get_or xs i 0) (get_or ys i 0)) bit ≡ 1)
      × ((j : ℕ) → j < bit → bit_at (bit_xor (get_or xs i 0) (get_or ys i 0)) j ≡ 0)
  lowest =
      bit_at-trailing_zeros w64 (bit_xor (get_or xs i 0) (get_or ys i 0))
      (xor_some (get_or xs i 0) (get_or ys i 0) differ) (xor_lt 64 (get_or xs i 0) (get_or ys i 0) fits fits')

  pub bit-within : bit < 64
  bit-within = lowest.0

  pub same_below : (k : ℕ) → k < 64 * i + bit → sets.contains (number_set xs) k ≡ sets.contains (number_set ys) k
  same_below k lt =
      elim (cases_lt k (64 * i)) [
        | inl before ↦ contains-same xs ys k (same (k / 64) (omega arith))
        | inr after ↦
            let high : k < 64 * (i + 1) = omega (arith, lowest.0) in
            let j = k - 64 * i in
            let e : bit_at (get_or xs i 0) (k - 64 * i) ≡ bit_at (get_or ys i 0) (k - 64 * i) =
            xor_same (bit_at (get_or xs i 0) j) (bit_at (get_or ys i 0) j) (bit_at-lt (get_or xs i 0) j)
            (bit_at-lt (get_or ys i 0) j)
            (sym (bit_at_xor (get_or xs i 0) (get_or ys i 0) j) ∙ lowest.2 j (omega arith)) in
            contains_in xs i k after high (bit_at (get_or ys i 0) (k - 64 * i)) e
            ∙ sym (contains_in ys i k after high (bit_at (get_or ys i 0) (k - 64 * i)) refl)
      ]

  odd : (bit_at (get_or xs i 0) bit + bit_at (get_or ys i 0) bit) % 2 ≡ 1
  odd = sym (bit_at_xor (get_or xs i 0) (get_or ys i 0) bit) ∙ lowest.1

  pub first_has : bit_at (get_or xs i 0) bit ≡ 1
      → (sets.contains (number_set xs) (64 * i + bit) ≡ true) × (sets.contains (number_set ys) (64 * i + bit) ≡ false)
  first_has one =
      let z : bit_at (get_or ys i 0) bit ≡ 0 = omega (arith, odd, bit_at-lt (get_or ys i 0) bit) in (
        contains-at xs i bit lowest.0 1 one,
        contains-at ys i bit lowest.0 0 z,
      )

  pub second_has : (bit_at (get_or xs i 0) bit ≡ 1 → ⊥)
      → (sets.contains (number_set ys) (64 * i + bit) ≡ true) × (sets.contains (number_set xs) (64 * i + bit) ≡ false)
  second_has not_one =
      let z : bit_at (get_or xs i 0) bit ≡ 0 = omega (arith, bit_at-lt (get_or xs i 0) bit) in
      let o : bit_at (get_or ys i 0) bit ≡ 1 = omega (arith, odd, bit_at-lt (get_or ys i 0) bit) in (
        contains-at ys i bit lowest.0 1 o,
        contains-at xs i bit lowest.0 0 z,
      )

-- ---- the order

abbrev pub GoesOn : NumberSet → ℕ → ℕ → Ordering → Type 0
GoesOn s bound m o =
    MatchOrdering o ((k : ℕ) × (m < k) × (k < bound) × (sets.contains s k ≡ true)) ⊥
    ((k : ℕ) → m < k → sets.contains s k ≡ false)

pub order_is : (s t : NumberSet) (bound m : ℕ) (o : Ordering) → m < bound
    → ((k : ℕ) → k < m → sets.contains s k ≡ sets.contains t k) → sets.contains s m ≡ true → sets.contains t m ≡ false
    → GoesOn t bound m o → o ≡ slice_cmp nat_cmp (members_below s bound) (members_below t bound)
order_is s t bound m Less lt below here there h =
    let e : bound ≡ m + suc (bound - (m + 1)) = omega arith in
    sym (ap (λ (n : ℕ). slice_cmp nat_cmp (members_below s n) (members_below t n)) e
    ∙ first_before (sets.contains s) (sets.contains t) m (bound - (m + 1)) below here there h.0 h.1 (omega (arith, h.2))
    h.3)
order_is s t bound m Equal lt below here there h = absurd h
order_is s t bound m Greater lt below here there h =
    let e : bound ≡ m + suc (bound - (m + 1)) = omega arith in
    sym (ap (λ (n : ℕ). slice_cmp nat_cmp (members_below s n) (members_below t n)) e
    ∙ first_behind (sets.contains s) (sets.contains t) m (bound - (m + 1)) below here there (λ k low high. h k low))

pub order_reversed : (xs ys : List ℕ) (o : Ordering) → o ≡ slice_cmp nat_cmp ys xs
    → ordering_reverse o ≡ slice_cmp nat_cmp xs ys
order_reversed xs ys o e = ap ordering_reverse e ∙ sym (nat_list_cmp_total.antisymm xs ys)

pub order_same : (xs ys : List ℕ) → xs ≡ ys
    → Equal ≡ slice_cmp nat_cmp (members_below (number_set xs) (64 * length xs))
    (members_below (number_set ys) (64 * length ys))
order_same xs ys e =
    let f : List ℕ → List ℕ = λ (zs : List ℕ). members_below (number_set zs) (64 * length zs) in
    sym (ap (λ (zs : List ℕ). slice_cmp nat_cmp (members_below (number_set xs) (64 * length xs))
    (members_below (number_set zs) (64 * length zs)))
    (sym e)
    ∙ tied_itself nat_list_cmp_total (f xs))

-- ---- the order of two lists of words of one length

module _ (xs ys : List ℕ) (i : ℕ) (same : (j : ℕ) → j < i → get_or xs j 0 ≡ get_or ys j 0)
    (differ : get_or xs i 0 ≡ get_or ys i 0 → ⊥)
    (fits : get_or xs i 0 < 2 ^ 64) (fits' : get_or ys i 0 < 2 ^ 64) (long : length xs ≡ length ys)
    (within : i < length xs) where
  abbrev place : ℕ
  place = 64 * i + trailing_zeros w64 (bit_xor (get_or xs i 0) (get_or ys i 0))

  pub place-within : place < 64 * length xs
  place-within = omega (arith, bit-within xs ys i same differ fits fits')

  below : (k : ℕ) → k < place → sets.contains (number_set xs) k ≡ sets.contains (number_set ys) k
  below = same_below xs ys i same differ fits fits'

  bit_is : bit_and (get_or xs i 0 / 2 ^ trailing_zeros w64 (bit_xor (get_or xs i 0) (get_or ys i 0))) 1
      ≡ bit_at (get_or xs i 0) (trailing_zeros w64 (bit_xor (get_or xs i 0) (get_or ys i 0)))
  bit_is = shr_and_one (get_or xs i 0) (trailing_zeros w64 (bit_xor (get_or xs i 0) (get_or ys i 0)))

  pub compared-first : bit_and (get_or xs i 0 / 2 ^ trailing_zeros w64 (bit_xor (get_or xs i 0) (get_or ys i 0))) 1 ≡ 1
      → (o : Ordering) → GoesOn (number_set ys) (64 * length ys) place o → o ≡ words_cmp xs ys
  compared-first one o h =
      let has = first_has xs ys i same differ fits fits' (sym bit_is ∙ one) in
      order_is (number_set xs) (number_set ys) (64 * length ys) place o (omega (arith, place-within)) below has.0 has.1
      h
      ∙ ap (λ (n : ℕ). slice_cmp nat_cmp (members_below (number_set xs) (64 * n))
      (members_below (number_set ys) (64 * length ys)))
      (sym long)

  pub compared-second :
      (bit_and (get_or xs i 0 / 2 ^ trailing_zeros w64 (bit_xor (get_or xs i 0) (get_or ys i 0))) 1 ≡ 1 → ⊥)
      → (o : Ordering) → GoesOn (number_set xs) (64 * length xs) place o → ordering_reverse o ≡ words_cmp xs ys
  compared-second none o h =
      let has = second_has xs ys i same differ fits fits' (λ e. none (bit_is ∙ e)) in
      order_reversed (members_below (number_set xs) (64 * length xs)) (members_below (number_set ys) (64 * length ys)) o
      (order_is (number_set ys) (number_set xs) (64 * length xs) place o place-within (λ k lt. sym (below k lt)) has.0
      has.1 h
      ∙ ap (λ (n : ℕ). slice_cmp nat_cmp (members_below (number_set ys) (64 * n))
      (members_below (number_set xs) (64 * length xs)))
      long)
