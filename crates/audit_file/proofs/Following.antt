-- How many sets follow one: fewer follow each later one, and one fewer follows the next.
use Rattle.std.proofs.Common.{◌≡◌, ℕ, suc, ◌+◌, ◌-◌, ◌^◌, ◌<◌, ◌≤◌, List, [], ◌∷◌, refl, ap, sym}
use Rattle.std.proofs.Common.{◌∙◌, arith, inl, inr, subst}
use Rattle.std.specs.Prelude.{nat_le, min}
use Rattle.std.specs.Ordering.{nat_cmp, ordering_then}
use Rattle.std.specs.Cmp.{nat_cmp_total, nat_cmp_is}
use Rattle.std.specs.Cmp.Lexicographic.{slice_cmp}
use Rattle.std.specs.declared.cmp.Ordering.{Ordering}
use Rattle.std.specs.declared.cmp.Ordering.TheVariants.{Less, Equal, Greater}
use Rattle.std.proofs.Math.Nat.{pow-succ'}
use Rattle.std.proofs.Math.Pow.{pow_mono}
use Rattle.std.proofs.lemmas.Nat.{pow_pos}
use Rattle.std.proofs.lemmas.Bool.{cases_lt, cases_eq, cases_order, le-leb, lt-leb}
use Rattle.std.proofs.lemmas.Cmp.{tied_itself}
use Rattle.finite_model.proofs.Numerals.{Ascend}
use Rattle.axiom_sets.proofs.Ranges.{slice_cmp-append}
use Rattle.audit_file.specs.Following.{sets_above, lists_after}

-- ---- powers

half : (n k : ℕ) → k < n → 2 ^ (n - k) ≡ 2 ^ (n - (k + 1)) + 2 ^ (n - (k + 1))
half n k lt =
    let e : n - k ≡ suc (n - (k + 1)) = omega (arith, lt) in
    omega (arith, ap (λ (j : ℕ). 2 ^ j) e, pow-succ' 2 (n - (k + 1)))

twice : (n k a : ℕ) → k < a → a ≤ n → 2 ^ (n - a) + 2 ^ (n - a) ≤ 2 ^ (n - k)
twice n k a less within =
    let more : suc (n - a) ≤ n - k = omega (arith, less, within) in
    omega (arith, pow-succ' 2 (n - a), pow_mono more)

-- ---- later lists have fewer after them

pub most : (n k : ℕ) (xs : List ℕ) → Ascend (k + 1) (n + 1) xs → lists_after n k xs ≤ sets_above n k
most n k [] up = omega arith
most n k (a ∷ xs) up =
    let less : k < a = omega (arith, up.0) in
    let within : a ≤ n = omega (arith, up.1) in
    omega (arith, most n a xs up.2, twice n k a less within, pow_pos (n - a))

not_less : (r : Ordering) → r ≡ Less → r ≡ Equal → ⊥
not_less r less equal = let clash : Less ≡ Equal = sym less ∙ equal in absurd (cc clash)

cmp_lt : (x y : ℕ) → x < y → nat_cmp x y ≡ Less
cmp_lt x y h = sym (nat_cmp_is x y Less h)

cmp_gt : (x y : ℕ) → y < x → nat_cmp x y ≡ Greater
cmp_gt x y h = sym (nat_cmp_is x y Greater h)

pub falls : (n k : ℕ) (xs ys : List ℕ) → Ascend (k + 1) (n + 1) xs → Ascend (k + 1) (n + 1) ys
    → slice_cmp nat_cmp xs ys ≡ Less → lists_after n k ys < lists_after n k xs
falls n k [] [] up vp h = absurd (cc h)
falls n k [] (b ∷ ys) up vp h =
    let less : k < b = omega (arith, vp.0) in
    let within : b ≤ n = omega (arith, vp.1) in
    omega (arith, most n b ys vp.2, twice n k b less within, pow_pos (n - b))
falls n k (a ∷ xs) [] up vp h = absurd (cc h)
falls n k (a ∷ xs) (b ∷ ys) up vp h = elim (cases_order a b) [
  | inl same ↦
      let rest : slice_cmp nat_cmp xs ys ≡ Less =
      sym (ap (λ (o : Ordering). ordering_then o (slice_cmp nat_cmp xs ys))
      (ap (nat_cmp a) (sym same) ∙ tied_itself nat_cmp_total a))
      ∙ h in
      let other : Ascend (a + 1) (n + 1) ys = subst (λ (x : ℕ). Ascend (x + 1) (n + 1) ys) (sym same) vp.2 in
      let later = falls n a xs ys up.2 other rest in
      let e : lists_after n k (b ∷ ys) ≡ lists_after n a ys + sets_above n a =
      ap (λ (x : ℕ). lists_after n x ys + sets_above n x) (sym same) in
      omega (arith, later, e)
  | inr (inl less) ↦
      let within : b ≤ n = omega (arith, vp.1) in
      omega (arith, most n b ys vp.2, twice n a b less within, pow_pos (n - b))
  | inr (inr more) ↦
      let clash : Greater ≡ Less =
      sym (ap (λ (o : Ordering). ordering_then o (slice_cmp nat_cmp xs ys)) (cmp_gt a b more)) ∙ h in
      absurd (cc clash)
]

-- ---- a next list

pub record IsNextList (n k : ℕ) (xs ys : List ℕ) : Type 0 where
  pub ascends : Ascend (k + 1) (n + 1) ys
  pub later : slice_cmp nat_cmp xs ys ≡ Less
  pub leaves : lists_after n k xs ≤ suc (lists_after n k ys)

some_left : (n k : ℕ) → 1 ≤ sets_above n k → k < n
some_left n k some = elim (cases_lt k n) [
  | inl less ↦ less
  | inr more ↦ let e : n - k ≡ 0 = omega (arith, more) in absurd (omega (arith, some, ap (λ (j : ℕ). 2 ^ j) e))
]

one_above : (n k : ℕ) → k < n → Ascend (k + 1) (n + 1) ((k + 1) ∷ [])
one_above n k less = (omega arith, omega (arith, less), tt)

pub next_list : (n k : ℕ) (xs : List ℕ) → Ascend (k + 1) (n + 1) xs → 1 ≤ lists_after n k xs
    → (ys : List ℕ) × IsNextList n k xs ys
next_list n k [] up some =
    let less = some_left n k some in (
      (k + 1) ∷ [],
      record {
        ascends = one_above n k less;
        later = refl;
        leaves = omega (arith, half n k less, pow_pos (n - (k + 1)));
      },
    )
next_list n k (a ∷ xs) up some = elim (cases_eq (lists_after n a xs) 0) [
  | inl none ↦
      let less = some_left n a (omega (arith, some, none)) in (
        (a + 1) ∷ [],
        record {
          ascends = (omega (arith, up.0), omega (arith, less), tt);
          later =
              ap (λ (o : Ordering). ordering_then o (slice_cmp nat_cmp xs [])) (cmp_lt a (a + 1) (omega arith));
          leaves = omega (arith, none, half n a less, pow_pos (n - (a + 1)));
        },
      )
  | inr more ↦
      let r = next_list n a xs up.2 (omega (arith, more)) in (
        a ∷ r.0,
        record {
          ascends = (up.0, up.1, r.1.ascends);
          later = slice_cmp-append (a ∷ []) xs r.0 ∙ r.1.later;
          leaves = omega (arith, r.1.leaves);
        },
      )
]

-- ---- up to a bound

pub at_most : (n m : ℕ) → n < 2 ^ 32 → nat_le n (min m (2 ^ 32 - 1)) ≡ nat_le n m
at_most n m small = elim (cases_lt m n) [
  | inl less ↦ lt-leb n (min m (2 ^ 32 - 1)) (omega (arith, less)) ∙ sym (lt-leb n m less)
  | inr more ↦ le-leb n (min m (2 ^ 32 - 1)) (omega (arith, more, small)) ∙ sym (le-leb n m more)
]
