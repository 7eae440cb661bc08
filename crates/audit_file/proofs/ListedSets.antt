-- The set of an ascending list of numbers, and the sets that are read.
use Rattle.std.proofs.Common.{◌≡◌, ℕ, zero, suc, ◌+◌, ◌<◌, ◌≤◌, ◌||◌, Bool, true, false, List, [], ◌∷◌, Option, Some}
use Rattle.std.proofs.Common.{None, option_map, length, get_or, refl, ap, sym, ◌∙◌, subst, arith, inl, inr}
use Rattle.std.specs.Prelude.{nat_eq, nat_le, nat_lt, ◌&&◌, codes, if◌then◌else◌}
use Rattle.std.specs.List.{list_any}
use Rattle.std.specs.Str.{bytes_eq}
use Rattle.std.specs.Ordering.{nat_cmp}
use Rattle.std.specs.FinSet as set
use Rattle.std.proofs.lemmas.Bool.{cases_eq, cases_Bool, or_cases, false≢true, eqb-true, ne_eqb, and_parts, leb-true}
use Rattle.std.proofs.lemmas.Bool.{ltb-true}
use Rattle.axiom_sets.specs.NumberSets.{NumberSet, passing}
use Rattle.axiom_sets.proofs.Ranges.{passing_none, passing_take, passing_skip}
use Rattle.axiom_sets.specs.Sets.{Limited, IsWithin, member_list}
use Rattle.axiom_sets.proofs.Kept.{put_within}
use Rattle.axiom_sets.proofs.Listed.{member_list-at, member_list-ascends}
use Rattle.certificate_lines.specs.Lines.{number_in}
use Rattle.finite_model.specs.ModelText.{element_in, elements_from}
use Rattle.finite_model.proofs.Numerals.{Ascend}
use Rattle.refutation_tree.specs.RefutationText.{with_numbers, axiom_set}
use Rattle.refutation_tree.proofs.Writable.{and_then_some, when_some}
use Rattle.audit_file.specs.AuditText.{numbers_set, set_line}

-- ---- an ascending list

abbrev is_among : List ℕ → ℕ → Bool
is_among xs k = list_any (λ x. nat_eq x k) xs

among_bounds : (low size : ℕ) (xs : List ℕ) (k : ℕ) → Ascend low size xs → is_among xs k ≡ true
    → (low ≤ k) × (k < size)
among_bounds low size [] k up h = absurd (false≢true h)
among_bounds low size (x ∷ xs) k up h = elim (or_cases (nat_eq x k) (is_among xs k) h) [
  | inl here ↦ let same : x ≡ k = eqb-true x k here in (omega (arith, up.0, same), omega (arith, up.1, same))
  | inr later ↦
      let b = among_bounds (x + 1) size xs k up.2 later in (omega (arith, up.0, b.0), b.1)
]

not_among : (low size : ℕ) (xs : List ℕ) (k : ℕ) → Ascend low size xs → k < low → is_among xs k ≡ false
not_among low size xs k up less = elim (cases_Bool (is_among xs k)) [
  | inl there ↦ absurd (omega (arith, less, (among_bounds low size xs k up there).0))
  | inr out ↦ out
]

-- a list of the numbers of a range that pass a test is the range's
passing_list : (p : ℕ → Bool) (a n : ℕ) (xs : List ℕ) → Ascend a (a + n) xs
    → ((k : ℕ) → a ≤ k → p k ≡ is_among xs k) → passing p a n ≡ xs
passing_list p a n [] up is = passing_none p a n (λ k low high. is k low)
passing_list p a zero (x ∷ xs) up is = absurd (omega (arith, up.0, up.1))
passing_list p a (suc n) (x ∷ xs) up is = elim (cases_eq x a) [
  | inl same ↦
      let size : a + suc n ≡ a + 1 + n = omega arith in
      let rest : Ascend (a + 1) (a + 1 + n) xs =
      subst (λ (m : ℕ). Ascend (m + 1) (a + 1 + n) xs) same (subst (λ (m : ℕ). Ascend (x + 1) m xs) size up.2) in
      let here : p a ≡ true =
      is a (omega arith) ∙ ap (λ (m : ℕ). nat_eq m a || is_among xs a) same
      ∙ ap (λ b. b || is_among xs a) (itself a) in
      passing_take p a n here
      ∙ (λ i. sym same i ∷ passing_list p (a + 1) n xs rest
      (λ k low. is k (omega (arith, low))
      ∙ ap (λ b. b || is_among xs k) (ne_eqb x k (omega (arith, low, same)))) i)
  | inr other ↦
      let size : a + suc n ≡ a + 1 + n = omega arith in
      let all : Ascend (a + 1) (a + 1 + n) (x ∷ xs) =
      (omega (arith, up.0, other), omega (arith, up.1), subst (λ (m : ℕ). Ascend (x + 1) m xs) size up.2) in
      let here : p a ≡ false =
      is a (omega arith) ∙ not_among (a + 1) (a + 1 + n) (x ∷ xs) a all (omega arith) in
      passing_skip p a n here
      ∙ passing_list p (a + 1) n (x ∷ xs) all (λ k low. is k (omega (arith, low)))
]
  where
    itself : (m : ℕ) → nat_eq m m ≡ true
    itself m = grind (arith)

-- ---- the list of a set

ascend_list : (low size : ℕ) (xs : List ℕ) → ((i : ℕ) → i < length xs → (low ≤ get_or xs i 0) × (get_or xs i 0 < size))
    → ((i j : ℕ) → i < j → j < length xs → get_or xs i 0 < get_or xs j 0) → Ascend low size xs
ascend_list low size [] bounds up = tt
ascend_list low size (x ∷ xs) bounds up =
    let first = bounds 0 (omega arith) in (
      first.0,
      first.1,
      ascend_list (x + 1) size xs
          (λ i lt. (
            let less : x < get_or xs i 0 = up 0 (suc i) (omega arith) (omega (arith, lt)) in omega (arith, less),
            (bounds (suc i) (omega (arith, lt))).1,
          ))
          (λ i j less lt. up (suc i) (suc j) (omega (arith, less)) (omega (arith, lt))),
    )

pub list_ascends : (s : Limited) → IsWithin s.limit s.members → Ascend 1 (s.limit + 1) (member_list s)
list_ascends s within =
    ascend_list 1 (s.limit + 1) (member_list s)
    (λ i lt. let at = member_list-at s i lt in ((within (get_or (member_list s) i 0) at.0).0, omega (arith, at.1)))
    (member_list-ascends s)

-- ---- the set of a list

abbrev pub set_of : ℕ → List ℕ → Limited
set_of n xs = record { limit = n; members = set.from_list xs }

module _ (n : ℕ) (xs : List ℕ) (up : Ascend 1 (n + 1) xs) where
  pub set_of_within : IsWithin n (set.from_list {R = nat_cmp} xs)
  set_of_within k h =
      let b = among_bounds 1 (n + 1) xs k up (sym (set.contains-from_list_nat xs k) ∙ h) in
      (b.0, omega (arith, b.1))

  pub set_of_list : member_list (set_of n xs) ≡ xs
  set_of_list =
      let size : n + 1 ≡ 0 + (n + 1) = omega arith in
      passing_list (set.contains (set.from_list {R = nat_cmp} xs)) 0 (n + 1) xs
      (subst (λ (m : ℕ). Ascend 0 m xs) size (from_zero xs up))
      (λ k low. set.contains-from_list_nat xs k)
    where
      from_zero : (ys : List ℕ) → Ascend 1 (n + 1) ys → Ascend 0 (n + 1) ys
      from_zero [] vp = tt
      from_zero (y ∷ ys) vp = (omega arith, vp.1, vp.2)

-- ---- sets that are read

option_ascends : (low size x : ℕ) (r : Option (List ℕ)) (ys : List ℕ)
    → ((xs : List ℕ) → r ≡ Some xs → Ascend (x + 1) size xs) → low ≤ x → x < size
    → option_map (λ xs. x ∷ xs) r ≡ Some ys → Ascend low size ys
option_ascends low size x None ys later from below h = absurd (cc h)
option_ascends low size x (Some xs) ys later from below h =
    let same : x ∷ xs ≡ ys = cc h in subst (Ascend low size) same (from, below, later xs refl)

elements_up : (low size : ℕ) (ws : List (List ℕ)) (xs : List ℕ) → elements_from low size ws ≡ Some xs
    → Ascend low size xs
elements_up low size [] xs h = let same : [] ≡ xs = cc h in subst (Ascend low size) same tt
elements_up low size (w ∷ ws) xs h = by (element_in low size w) refl (λ x ys. elements_up (x + 1) size ws ys)
  where
    by : (r : Option ℕ) → element_in low size w ≡ r
        → ((x : ℕ) (ys : List ℕ) → elements_from (x + 1) size ws ≡ Some ys → Ascend (x + 1) size ys)
        → Ascend low size xs
    by None is later =
        let clash : ◌≡◌ {A = Option (List ℕ)} None (Some xs) =
        sym (ap (λ (r : Option ℕ). elim r
        [ None ↦ None | Some y ↦ option_map (λ ys. y ∷ ys) (elements_from (y + 1) size ws) ]) is)
        ∙ h in
        absurd (cc clash)
    by (Some x) is later =
        let number =
        and_then_some (λ y. if nat_le low y && nat_lt y size then Some y else None) (number_in w) x is in
        let inside = when_some (nat_le low number.0 && nat_lt number.0 size) (Some number.0) x number.2 in
        let same : number.0 ≡ x = cc inside.1 in
        let parts = and_parts (nat_le low number.0) (nat_lt number.0 size) inside.0 in
        let from = leb-true low number.0 parts.0 in
        let below = ltb-true number.0 size parts.1 in
        option_ascends low size x (elements_from (x + 1) size ws) xs (later x) (omega (arith, from, same))
        (omega (arith, below, same))
        (sym (ap (λ (r : Option ℕ). elim r
        [ None ↦ None | Some y ↦ option_map (λ ys. y ∷ ys) (elements_from (y + 1) size ws) ]) is)
        ∙ h)

with_within : (n low : ℕ) (xs : List ℕ) (s : NumberSet) → 1 ≤ low → Ascend low (n + 1) xs → IsWithin n s
    → IsWithin n (with_numbers xs s)
with_within n low [] s some up within = within
with_within n low (x ∷ xs) s some up within =
    with_within n (x + 1) xs (set.insert s x) (omega arith) up.2
    (put_within n x s within (omega (arith, some, up.0)) (omega (arith, up.1)))

none_within : (n : ℕ) → IsWithin n (set.empty {R = nat_cmp})
none_within n k h = absurd (false≢true (sym (set.contains-empty nat_cmp k) ∙ h))

numbers_within : (count : ℕ) (ws : List (List ℕ)) (s : Limited) → numbers_set count ws ≡ Some s
    → IsWithin s.limit s.members
numbers_within count ws s h = by (elements_from 1 (count + 1) ws) refl
  where
    by : (r : Option (List ℕ)) → elements_from 1 (count + 1) ws ≡ r → IsWithin s.limit s.members
    by None is =
        let clash : ◌≡◌ {A = Option Limited} None (Some s) = sym (ap (option_map (axiom_set count)) is) ∙ h in
        absurd (cc clash)
    by (Some xs) is =
        let same : axiom_set count xs ≡ s = cc (sym (ap (option_map (axiom_set count)) is) ∙ h) in
        subst (λ (t : Limited). IsWithin t.limit t.members) same
        (with_within count 1 xs set.empty (omega arith) (elements_up 1 (count + 1) ws xs is) (none_within count))

pub line_within : (count : ℕ) (ws : List (List ℕ)) (s : Limited) → set_line count ws ≡ Some s
    → IsWithin s.limit s.members
line_within count [] s h = absurd (cc h)
line_within count (k ∷ ws) s h =
    numbers_within count ws s (when_some (bytes_eq k (codes "set")) (numbers_set count ws) s h).1
