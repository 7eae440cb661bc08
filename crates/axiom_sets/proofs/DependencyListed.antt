-- Sets of marks as lists.
use Rattle.std.proofs.Common.{◌≡◌, ℕ, zero, suc, ◌+◌, ◌<◌, ◌≤◌, ◌≢◌, ◌-◌, not, Bool, true, false, List, [], ◌∷◌, ◌++◌}
use Rattle.std.proofs.Common.{length, get_or, refl, sym, ap, ◌∙◌, arith, inl, inr}
use Rattle.std.specs.Prelude.{◌==◌, ◌&&◌, ◌||◌, nat_eq, cond, filter, Result, Ok, Err, IfOk}
use Rattle.std.specs.List.{list_any, list_all, dedup, dedup_from}
use Rattle.std.specs.List.Sorted.{IsStrictlyIncreasing, IsPermutation}
use Rattle.std.specs.Ordering.{nat_cmp, eq_by_cmp}
use Rattle.std.specs.Cmp.{nat_cmp_total, nat_eq_equiv, unsigned_tied}
use Rattle.std.specs.FinSet as sets
use Rattle.std.proofs.lemmas.Bool.{cases_eq, cases_lt, cases_Bool, eq-eqb, ne_eqb, eqb-true, and_parts, or_left}
use Rattle.std.proofs.lemmas.List.Sorted.{list_any-IsPermutation}
use Rattle.std.proofs.lemmas.Map.Keys.{sorted_from_strictly_increasing, below_from_sorted}
use Rattle.std.proofs.Math.Bool.{or-false, or_comm, or_self_left}
use Rattle.lane_sieve.proofs.Bools.{or_absorbs}
use Rattle.lane_sieve.specs.Sets.{NumberSet}
use Rattle.axiom_sets.specs.Marks.{marks_set, is_mark, AreUnited, IsGreatest}

-- sets with the same members are the same
pub same : (s t : NumberSet) → ((k : ℕ) → sets.contains s k ≡ sets.contains t k) → s ≡ t
same s t h = sets.same_set nat_cmp_total sets.nat_cmp-IsAntisymmetric s t h

pub contains-marks : (marks : List ℕ) (k : ℕ) → sets.contains (marks_set marks) k ≡ is_mark marks k
contains-marks marks k = sets.contains-from_list_nat marks k

pub marks-nil : marks_set [] ≡ sets.empty
marks-nil = same (marks_set []) sets.empty (λ k. contains-marks [] k ∙ sym (sets.contains-empty nat_cmp k))

tied : (q k : ℕ) → eq_by_cmp nat_cmp q k ≡ (k == q)
tied q k = unsigned_tied q k ∙ nat_eq_equiv.symm q k

pub one-marks : (mark : ℕ) → marks_set (mark ∷ []) ≡ sets.insert sets.empty mark
one-marks mark = same (marks_set (mark ∷ [])) (sets.insert sets.empty mark)
    (λ k. contains-marks (mark ∷ []) k
    ∙ sym
    (sets.contains-insert nat_cmp_total sets.empty mark k ∙ (λ i. tied k mark i || sets.contains-empty nat_cmp k i)))

-- ---- unions

pub union-marks : (xs ys zs : List ℕ) → AreUnited xs ys zs → marks_set zs ≡ sets.union (marks_set xs) (marks_set ys)
union-marks xs ys zs h = same (marks_set zs) (sets.union (marks_set xs) (marks_set ys))
    (λ k. contains-marks zs k ∙ h k
    ∙ sym (sets.contains-union nat_cmp_total (marks_set xs) (marks_set ys) k
    ∙ (λ i. contains-marks xs k i || contains-marks ys k i)))

part_has : (xs ys : List ℕ) → list_all (is_mark ys) xs ≡ true → (k : ℕ) → is_mark xs k ≡ true → is_mark ys k ≡ true
part_has [] ys all k h = cc
part_has (x ∷ xs) ys all k h =
    let parts = and_parts (is_mark ys x) (list_all (is_mark ys) xs) all in
    elim (cases_eq x k) [
      | inl e ↦ ap (is_mark ys) (sym e) ∙ parts.0
      | inr other ↦ part_has xs ys parts.1 k (sym (ap (λ (b : Bool). b || is_mark xs k) (ne_eqb x k other)) ∙ h)
    ]

-- the union with a part of it
pub union_part : (xs ys : List ℕ) → list_all (is_mark xs) ys ≡ true
    → marks_set xs ≡ sets.union (marks_set xs) (marks_set ys)
union_part xs ys all = union-marks xs ys xs (λ k. sym (or_absorbs (is_mark xs k) (is_mark ys k) (part_has ys xs all k)))

pub union_whole : (xs ys : List ℕ) → list_all (is_mark ys) xs ≡ true
    → marks_set ys ≡ sets.union (marks_set xs) (marks_set ys)
union_whole xs ys all =
    union-marks xs ys ys
    (λ k. sym (or_comm (is_mark xs k) (is_mark ys k) ∙ or_absorbs (is_mark ys k) (is_mark xs k) (part_has xs ys all k)))

any-append : (p : ℕ → Bool) (xs ys : List ℕ) → list_any p (xs ++ ys) ≡ (list_any p xs || list_any p ys)
any-append p [] ys = refl
any-append p (x ∷ xs) ys = elim (p x) as (λ b. (b || list_any p (xs ++ ys)) ≡ ((b || list_any p xs) || list_any p ys))
    [ true ↦ refl | false ↦ any-append p xs ys ]

any-dedup_from : (p : ℕ → Bool) (x : ℕ) (xs : List ℕ) → list_any p (dedup_from nat_eq x xs) ≡ (p x || list_any p xs)
any-dedup_from p x [] = refl
any-dedup_from p x (y ∷ ys) = elim (cases_eq y x) [
  | inl e ↦
      ap (λ (b : Bool). list_any p (cond b (dedup_from nat_eq x ys) (x ∷ dedup_from nat_eq y ys))) (eq-eqb y x e)
      ∙ any-dedup_from p x ys
      ∙ sym (or_self_left (p x) (list_any p ys)) ∙ ap (λ (n : ℕ). p x || (p n || list_any p ys)) (sym e)
  | inr other ↦
      ap (λ (b : Bool). list_any p (cond b (dedup_from nat_eq x ys) (x ∷ dedup_from nat_eq y ys))) (ne_eqb y x other)
      ∙ ap (λ (b : Bool). p x || b) (any-dedup_from p y ys)
]

any-dedup : (p : ℕ → Bool) (xs : List ℕ) → list_any p (dedup nat_eq xs) ≡ list_any p xs
any-dedup p [] = refl
any-dedup p (x ∷ xs) = any-dedup_from p x xs

pub united-marks : (xs ys all sorted made : List ℕ) → all ≡ xs ++ ys → IsPermutation all sorted
    → made ≡ dedup nat_eq sorted → AreUnited xs ys made
united-marks xs ys all sorted made whole perm is k =
    let p : ℕ → Bool = λ m. m == k in
    ap (list_any p) is ∙ any-dedup p sorted ∙ sym (list_any-IsPermutation p all sorted perm) ∙ ap (list_any p) whole
    ∙ any-append p xs ys

-- ---- one mark less

pub remove-marks : (xs : List ℕ) (mark : ℕ)
    → marks_set (filter (λ m. not (m == mark)) xs) ≡ sets.remove (marks_set xs) mark
remove-marks xs mark = same (marks_set (filter (λ m. not (m == mark)) xs)) (sets.remove (marks_set xs) mark)
    (λ k. contains-marks (filter (λ m. not (m == mark)) xs) k ∙ filtered xs k
    ∙ sym
    (sets.contains-remove nat_cmp_total (marks_set xs) mark k ∙ (λ i. not (tied k mark i) && contains-marks xs k i)))
  where
    and_false : (a : Bool) → false ≡ (a && false)
    and_false true = refl
    and_false false = refl

    taken : (a b : Bool) → (not a && b) ≡ (not a && (a || b))
    taken true b = refl
    taken false b = refl

    filtered : (us : List ℕ) (k : ℕ) → is_mark (filter (λ m. not (m == mark)) us) k ≡ (not (mark == k) && is_mark us k)
    filtered [] k = and_false (not (mark == k))
    filtered (x ∷ us) k =
        let rest = filter (λ m. not (m == mark)) us in
        elim (cases_eq x mark) [
          | inl e ↦
              ap (λ (b : Bool). is_mark (cond (not b) (x ∷ rest) rest) k) (eq-eqb x mark e) ∙ filtered us k
              ∙ taken (mark == k) (is_mark us k)
              ∙ ap (λ (n : ℕ). not (mark == k) && (n == k || is_mark us k)) (sym e)
          | inr other ↦
              ap (λ (b : Bool). is_mark (cond (not b) (x ∷ rest) rest) k) (ne_eqb x mark other)
              ∙ ap (λ (b : Bool). x == k || b) (filtered us k) ∙ elim (cases_eq mark k) [
                | inl here ↦
                    (λ i. ne_eqb x k (λ e. other (e ∙ sym here)) i || (not (eq-eqb mark k here i) && is_mark us k))
                    ∙ ap (λ (b : Bool). not b && (x == k || is_mark us k)) (sym (eq-eqb mark k here))
                | inr away ↦
                    ap (λ (b : Bool). x == k || (not b && is_mark us k)) (ne_eqb mark k away)
                    ∙ ap (λ (b : Bool). not b && (x == k || is_mark us k)) (sym (ne_eqb mark k away))
              ]
        ]

-- ---- places

pub mark_at : (xs : List ℕ) (i x : ℕ) → i < length xs → get_or xs i 0 ≡ x → is_mark xs x ≡ true
mark_at [] i x lt e = absurd (omega (arith, lt))
mark_at (y ∷ ys) zero x lt e = ap (λ (b : Bool). b || is_mark ys x) (eq-eqb y x e)
mark_at (y ∷ ys) (suc i) x lt e =
    elim (y == x) as (λ b. (b || is_mark ys x) ≡ true) [ true ↦ refl | false ↦ mark_at ys i x (omega (arith, lt)) e ]

pub no_mark : (xs : List ℕ) (x : ℕ) → ((k : ℕ) → k < length xs → get_or xs k 0 ≢ x) → is_mark xs x ≡ false
no_mark [] x h = refl
no_mark (y ∷ ys) x h =
    ap (λ (b : Bool). b || is_mark ys x) (ne_eqb y x (h 0 (omega arith)))
    ∙ no_mark ys x (λ k lt. h (suc k) (omega (arith, lt)))

pub rises : (xs : List ℕ) → IsStrictlyIncreasing xs → (i j : ℕ) → i ≤ j → j < length xs → get_or xs i 0 ≤ get_or xs j 0
rises xs up i j le lt = elim (cases_eq i j) [
  | inl e ↦ (let same : get_or xs i 0 ≡ get_or xs j 0 = ap (λ (n : ℕ). get_or xs n 0) e in omega (arith, same))
  | inr other ↦
      (let less = below_from_sorted xs i j 0 (sorted_from_strictly_increasing xs up) (omega (arith, le, other)) lt in
      omega (arith, less))
]

-- no mark that is greater than the last of ascending marks is among them
pub beyond_last : (xs : List ℕ) (last k : ℕ) → IsStrictlyIncreasing xs → 0 < length xs
    → get_or xs (length xs - 1) 0 ≡ last → last < k → is_mark xs k ≡ false
beyond_last xs last k up some is lt = no_mark xs k (λ i within e.
    let le = rises xs up i (length xs - 1) (omega (arith, within)) (omega (arith, some)) in
    absurd (omega (arith, le, is, e, lt)))

-- ---- results

pub if_ok_same : {X E : Type 0} (r : Result X E) (a b : X) → a ≡ b → IfOk r (λ d. d ≡ a) → IfOk r (λ d. d ≡ b)
if_ok_same (Ok d) a b e h = h ∙ e
if_ok_same (Err x) a b e h = h

pub remove_other : (s : NumberSet) (mark : ℕ) → sets.contains s mark ≡ false → s ≡ sets.remove s mark
remove_other s mark h = same s (sets.remove s mark)
    (λ k. elim (cases_eq mark k) [
      | inl here ↦
          ap (sets.contains s) (sym here) ∙ h ∙ ap (λ (b : Bool). not b && sets.contains s k) (sym (eq-eqb mark k here))
      | inr away ↦ ap (λ (b : Bool). not b && sets.contains s k) (sym (ne_eqb mark k away))
    ] ∙ sym (sets.contains-remove nat_cmp_total s mark k ∙ ap (λ (b : Bool). not b && sets.contains s k) (tied k mark)))
