-- Sets of classes, while classes are put in and taken out.
use Rattle.std.proofs.Common.{◌≡◌, ℕ, zero, suc, ◌+◌, ◌-◌, ◌<◌, ◌≤◌, ◌&&◌, ◌||◌, not, Bool, true, false, eqb, List, []}
use Rattle.std.proofs.Common.{◌∷◌, length, get_or, map, refl, sym, ap, subst, ◌∙◌, arith, inl, inr, eq-eqb}
use Rattle.std.specs.Prelude.{nat_lt}
use Rattle.std.specs.List.{list_all}
use Rattle.std.specs.FinSet as set
use Rattle.std.specs.Ordering.{nat_cmp}
use Rattle.std.specs.Cmp.{nat_cmp_total}
use Rattle.std.proofs.lemmas.Bool.{cases_Bool, cases_lt, cases_order, ne_eqb, lt-ltb, le-ltb, not_from_false}
use Rattle.std.proofs.lemmas.Bool.{false_from_ne_true}
use Rattle.lane_sieve.specs.Sets.{NumberSet, passing}
use Rattle.lane_sieve.proofs.Ranges.{passing_from, passing_same, passing_upto}
use Rattle.lane_sieve.proofs.Bits.{contains_insert, contains_remove}
use Rattle.axiom_sets.specs.Sets.{Limited, IsWithin, member_list}
use Rattle.axiom_sets.proofs.Listed.{member_list-at, member_list-place, member_list-ascends}
use Rattle.shq_meaning.specs.Below.{all_below}
use Rattle.shq_meaning.proofs.Below.{all_below-false}
use Rattle.subsumption.specs.ClassSets.{has_class, class_list, HoldsClasses}
use Rattle.subsumption.proofs.Passing.{before-passing, all-passing, all_below_true}

-- ---- the list of a set's classes

not_zero : (s : Limited) → IsWithin s.limit s.members → set.contains s.members 0 ≡ false
not_zero s within =
    elim (cases_Bool (set.contains s.members 0)) [ inr f ↦ f | inl t ↦ absurd (omega (arith, (within 0 t).0)) ]

from_one : (s : Limited) → IsWithin s.limit s.members → member_list s ≡ passing (set.contains s.members) 1 s.limit
from_one s within =
    let e : s.limit + 1 ≡ 1 + s.limit = omega arith in
    let p = set.contains s.members in
    ap (passing p 0) e
    ∙ passing_from p 0 1 s.limit (λ k low high.
    let z : k ≡ 0 = omega arith in
    ap p z ∙ not_zero s within)

pub class_list-is : (s : Limited) → IsWithin s.limit s.members → map (λ k. k - 1) (member_list s) ≡ class_list s
class_list-is s within = ap (map (λ k. k - 1)) (from_one s within) ∙ before-passing (set.contains s.members) 0 s.limit

-- each number in it is that of a class
pub numbers_from_one : (s : Limited) → IsWithin s.limit s.members → list_all (λ k. nat_lt 0 k) (member_list s) ≡ true
numbers_from_one s within =
    ap (list_all (λ k. nat_lt 0 k)) (from_one s within)
    ∙ all-passing (λ k. nat_lt 0 k) (set.contains s.members) 1 s.limit (λ k low high h. lt-ltb 0 k (omega arith))

-- where they are those that pass a test
pub class_list-holds : (count : ℕ) (test : ℕ → Bool) (s : Limited) → HoldsClasses count test s
    → class_list s ≡ passing test 0 count
class_list-holds count test s h =
    ap (passing (has_class s) 0) h.limit
    ∙ passing_upto (has_class s) 0 count 2 (λ k low high. h.outside k (omega arith))
    ∙ passing_same (has_class s) test 0 count (λ k low high. h.inside k (omega arith))

-- ---- the least class of a set

module _ (s : Limited) (within : IsWithin s.limit s.members) (first : ℕ) (rest : List ℕ)
    (is : member_list s ≡ first ∷ rest) where
  is_member : set.contains s.members first ≡ true
  is_member =
      subst (λ (xs : List ℕ). set.contains s.members (get_or xs 0 0) ≡ true) is
      (member_list-at s 0 (omega (arith, ap length is))).0

  is_least : (k : ℕ) → set.contains s.members k ≡ true → first ≤ k
  is_least k h =
      let place = member_list-place s within k h in
      by place.0 place.1 (subst (λ (xs : List ℕ). get_or xs place.0 0 ≡ k) is place.2)
    where
      by : (j : ℕ) → j < length (member_list s) → get_or (first ∷ rest) j 0 ≡ k → first ≤ k
      by zero lt e = omega (arith, e)
      by (suc j) lt e =
          let less = member_list-ascends s 0 (suc j) (omega arith) lt in
          let less' : first < get_or (first ∷ rest) (suc j) 0 =
          subst (λ (xs : List ℕ). get_or xs 0 0 < get_or xs (suc j) 0) is less in
          omega (arith, less', e)

  -- where the numbers of a set are gone through, the first of them is the least
  pub none_before_first : (class : ℕ) → nat_lt class first ≡ all_below class (λ x. not (has_class s x))
  none_before_first class = elim (cases_lt class first) [
    | inl lt ↦
        lt-ltb class first lt
        ∙ sym (all_below_true class (λ x. not (has_class s x))
        (λ x less. not_from_false (has_class s x)
        (false_from_ne_true (has_class s x) (λ h. omega (arith, is_least (x + 1) h)))))
    | inr ge ↦
        let low = (within first is_member).0 in
        let e : first - 1 + 1 ≡ first = omega (arith, low) in
        let there : has_class s (first - 1) ≡ true = ap (set.contains s.members) e ∙ is_member in
        le-ltb class first ge
        ∙ sym (all_below-false class (λ x. not (has_class s x)) (first - 1) (omega (arith, low, ge)) (ap not there))
  ]

pub none_before_end : (s : Limited) (class : ℕ) → IsWithin s.limit s.members → member_list s ≡ []
    → true ≡ all_below class (λ x. not (has_class s x))
none_before_end s class within is =
    sym (all_below_true class (λ x. not (has_class s x))
    (λ x less. not_from_false (has_class s x)
    (false_from_ne_true (has_class s x) (λ h. omega (arith, (member_list-place s within (x + 1) h).1, ap length is)))))

-- ---- classes are put in

-- of the classes below i, the set has those that pass
pub record HoldsBelow (i : ℕ) (test : ℕ → Bool) (limit : ℕ) (s : Limited) : Type 0 where
  pub limit_is : s.limit ≡ limit
  pub classes : (x : ℕ) → has_class s x ≡ (nat_lt x i && test x)

pub holds_none : (test : ℕ → Bool) (limit : ℕ) (s : Limited) → s.limit ≡ limit → s.members ≡ set.empty
    → HoldsBelow 0 test limit s
holds_none test limit s is none = record {
  limit_is = is;
  classes =
      λ x. ap (λ (m : NumberSet). set.contains m (x + 1)) none ∙ set.contains-empty nat_cmp (x + 1)
      ∙ ap (λ (b : Bool). b && test x) (sym (le-ltb x 0 (omega arith)));
}

one_more : (test : ℕ → Bool) (i x : ℕ) → ((nat_lt x i && test x) || (eqb x i && test i)) ≡ (nat_lt x (i + 1) && test x)
one_more test i x = elim (cases_order x i) [
  | inl e ↦ rw (e, le-ltb i i (omega arith), eq-eqb i i refl, lt-ltb i (i + 1) (omega arith)) refl
  | inr r ↦ elim r [
    | inl lt ↦ rw (lt-ltb x i lt, ne_eqb x i (omega arith), lt-ltb x (i + 1) (omega arith)) (or_false (test x))
    | inr gt ↦ rw (le-ltb x i (omega arith), ne_eqb x i (omega arith), le-ltb x (i + 1) (omega arith)) refl
  ]
]
  where
    or_false : (b : Bool) → ((true && b) || (false && test i)) ≡ (true && b)
    or_false true = refl
    or_false false = refl

pub holds_more : (test : ℕ → Bool) (i limit : ℕ) (b : Bool) (s t : Limited) → HoldsBelow i test limit s → b ≡ test i
    → t.limit ≡ s.limit → ((x : ℕ) → has_class t x ≡ (has_class s x || (eqb x i && b)))
    → HoldsBelow (i + 1) test limit t
holds_more test i limit b s t below says same more = record {
  limit_is = same ∙ below.limit_is;
  classes =
      λ x. more x ∙ ap (λ (c : Bool). c || (eqb x i && b)) (below.classes x)
      ∙ ap (λ (c : Bool). (nat_lt x i && test x) || (eqb x i && c)) says ∙ one_more test i x;
}

pub holds_whole : (test : ℕ → Bool) (i count : ℕ) (s : Limited) → i ≡ count → HoldsBelow i test (count + 2) s
    → HoldsClasses count test s
holds_whole test i count s e below = record {
  limit = below.limit_is;
  inside = λ x lt. below.classes x ∙ ap (λ (c : Bool). c && test x) (lt-ltb x i (omega arith));
  outside = λ x ge. below.classes x ∙ ap (λ (c : Bool). c && test x) (le-ltb x i (omega arith));
}

-- the number of one class is that of another one exactly where they are the same
pub same_number : (x y : ℕ) → eqb (x + 1) (y + 1) ≡ eqb x y
same_number x y = elim (cases_order x y) [
  | inl e ↦ rw (e, eq-eqb (y + 1) (y + 1) refl, eq-eqb y y refl) refl
  | inr r ↦ elim r [
    | inl lt ↦ rw (ne_eqb (x + 1) (y + 1) (omega arith), ne_eqb x y (omega arith)) refl
    | inr gt ↦ rw (ne_eqb (x + 1) (y + 1) (omega arith), ne_eqb x y (omega arith)) refl
  ]
]

or_swap : (a b : Bool) → (a || b) ≡ (b || (a && true))
or_swap true true = refl
or_swap true false = refl
or_swap false true = refl
or_swap false false = refl

pub put_in : (s : NumberSet) (class x : ℕ)
    → set.contains (set.insert s (class + 1)) (x + 1) ≡ (set.contains s (x + 1) || (eqb x class && true))
put_in s class x =
    contains_insert s (class + 1) (x + 1) ∙ ap (λ (b : Bool). b || set.contains s (x + 1)) (same_number x class)
    ∙ or_swap (eqb x class) (set.contains s (x + 1))

pub taken_out : (s : NumberSet) (class x : ℕ)
    → set.contains (set.remove s (class + 1)) (x + 1) ≡ (not (eqb x class) && set.contains s (x + 1))
taken_out s class x =
    contains_remove s (class + 1) (x + 1) ∙ ap (λ (b : Bool). not b && set.contains s (x + 1)) (same_number x class)

-- what is left of s without those of s that are not in t
kept : (a b : Bool) → (a && not (a && not b)) ≡ (a && b)
kept true true = refl
kept true false = refl
kept false b = refl

pub kept_in : (s t r : NumberSet) → r ≡ set.difference s t → (k : ℕ)
    → set.contains (set.difference s r) k ≡ (set.contains s k && set.contains t k)
kept_in s t r is k =
    set.contains-difference nat_cmp_total s r k
    ∙ ap (λ (m : NumberSet). set.contains s k && not (set.contains m k)) is
    ∙ ap (λ (b : Bool). set.contains s k && not b) (set.contains-difference nat_cmp_total s t k)
    ∙ kept (set.contains s k) (set.contains t k)
