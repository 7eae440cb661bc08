-- The line of axioms is read back.
use Rattle.std.proofs.Common.{◌≡◌, ℕ, zero, suc, ◌+◌, ◌^◌, ◌<◌, eqb, Bool, true, false, ◌&&◌, ◌||◌, List, [], ◌∷◌, map}
use Rattle.std.proofs.Common.{refl, ap, ◌∙◌, inl, inr, Some, None, arith}
use Rattle.std.specs.Prelude.{nat_lt, nat_le, nat_eq, codes, decimal, option_and_then, if◌then◌else◌}
use Rattle.std.specs.List.{list_all, list_any}
use Rattle.std.specs.Cmp.{nat_cmp_total}
use Rattle.std.specs.FinSet as set
use Rattle.std.proofs.lemmas.Bool.{and_parts, and_from, cases_Bool, lt-ltb, le-leb}
use Rattle.axiom_sets.specs.NumberSets.{NumberSet, passing}
use Rattle.axiom_sets.proofs.Ranges.{any-passing}
use Rattle.axiom_sets.proofs.Bits.{contains_insert}
use Rattle.axiom_sets.specs.Sets.{Limited, IsWithin, member_list}
use Rattle.shq_nnf.specs.TheoryRows.{is_ascending}
use Rattle.refutation_tree.specs.RefutationText.{are_axiom_numbers, with_numbers, axiom_set, axioms_numbered}
use Rattle.refutation_tree.specs.RefutationText.{axioms_line}
use Rattle.refutation_tree.proofs.FieldsBack.{are_small, numbers_back}

-- ---- numbers of a range that pass a test

passing_all : (test good : ℕ → Bool) → ((k : ℕ) → test k ≡ true → good k ≡ true) → (a n : ℕ)
    → list_all good (passing test a n) ≡ true
unfolding passing
passing_all test good h a zero = refl
passing_all test good h a (suc n) = by (test a) refl (passing_all test good h (a + 1) n)
  where
    by : (b : Bool) → test a ≡ b → list_all good (passing test (a + 1) n) ≡ true
        → list_all good (if b then a ∷ passing test (a + 1) n else passing test (a + 1) n) ≡ true
    by true here rest = and_from (good a) (list_all good (passing test (a + 1) n)) (h a here) rest
    by false here rest = rest

passing_above : (test : ℕ → Bool) (low a n : ℕ) → low < a → list_all (λ k. nat_lt low k) (passing test a n) ≡ true
unfolding passing
passing_above test low a zero lt = refl
passing_above test low a (suc n) lt = by (test a) (passing_above test low (a + 1) n (omega arith))
  where
    by : (b : Bool) → list_all (λ k. nat_lt low k) (passing test (a + 1) n) ≡ true
        → list_all (λ k. nat_lt low k) (if b then a ∷ passing test (a + 1) n else passing test (a + 1) n) ≡ true
    by true rest =
        and_from (nat_lt low a) (list_all (λ k. nat_lt low k) (passing test (a + 1) n)) (lt-ltb low a lt) rest
    by false rest = rest

ascends_more : (a : ℕ) (ns : List ℕ) → list_all (λ k. nat_lt a k) ns ≡ true → is_ascending ns ≡ true
    → is_ascending (a ∷ ns) ≡ true
ascends_more a [] above h = refl
ascends_more a (n ∷ ns) above h =
    and_from (nat_lt a n) (is_ascending (n ∷ ns)) (and_parts (nat_lt a n) (list_all (λ k. nat_lt a k) ns) above).0 h

passing_ascends : (test : ℕ → Bool) (a n : ℕ) → is_ascending (passing test a n) ≡ true
unfolding passing
passing_ascends test a zero = refl
passing_ascends test a (suc n) = by (test a) (passing_ascends test (a + 1) n)
  where
    by : (b : Bool) → is_ascending (passing test (a + 1) n) ≡ true
        → is_ascending (if b then a ∷ passing test (a + 1) n else passing test (a + 1) n) ≡ true
    by true rest = ascends_more a (passing test (a + 1) n) (passing_above test a (a + 1) n (omega arith)) rest
    by false rest = rest

-- ---- the set of the numbers

turned : (a b : ℕ) → eqb a b ≡ nat_eq b a
turned a b = grind (arith)

contains_numbers : (ns : List ℕ) (s : NumberSet) (q : ℕ)
    → set.contains (with_numbers ns s) q ≡ (list_any (λ n. nat_eq n q) ns || set.contains s q)
contains_numbers [] s q = refl
contains_numbers (n ∷ ns) s q =
    contains_numbers ns (set.insert s n) q
    ∙ ap (λ b. list_any (λ m. nat_eq m q) ns || b)
    (contains_insert s n q ∙ ap (λ b. b || set.contains s q) (turned q n))
    ∙ swapped (list_any (λ m. nat_eq m q) ns) (nat_eq n q) (set.contains s q)
  where
    swapped : (a b c : Bool) → (a || (b || c)) ≡ ((b || a) || c)
    swapped true true c = refl
    swapped true false c = refl
    swapped false true c = refl
    swapped false false c = refl

module _ (s : Limited) (within : IsWithin s.limit s.members) where
  holds_members : (q : ℕ) → set.contains (with_numbers (member_list s) set.empty) q ≡ set.contains s.members q
  holds_members q =
      contains_numbers (member_list s) set.empty q
      ∙ ap (λ b. list_any (λ n. nat_eq n q) (member_list s) || b) (set.contains-empty _ q)
      ∙ ap (λ b. b || false) (any-passing (set.contains s.members) 0 (s.limit + 1) q)
      ∙ (elim (cases_Bool (set.contains s.members q)) [
        | inl here ↦
            rw (here, le-leb 0 q (omega arith), lt-ltb q (0 + (s.limit + 1)) (omega (arith, (within q here).1))) refl
        | inr there ↦ rw there refl
      ])

  pub members_again : axiom_set s.limit (member_list s) ≡ s
  members_again =
      ap (λ (m : NumberSet). record { limit = s.limit; members = m })
      (set.same_set nat_cmp_total set.nat_cmp-IsAntisymmetric (with_numbers (member_list s) set.empty) s.members
      holds_members)

  pub are_numbers : are_axiom_numbers s.limit (member_list s) ≡ true
  are_numbers =
      and_from (list_all (λ n. nat_lt 0 n && nat_le n s.limit) (member_list s)) (is_ascending (member_list s))
      (passing_all (set.contains s.members) (λ n. nat_lt 0 n && nat_le n s.limit)
      (λ k here.
      let w = within k here in
      and_from (nat_lt 0 k) (nat_le k s.limit) (lt-ltb 0 k (omega (arith, w.0))) (le-leb k s.limit w.1))
      0 (s.limit + 1))
      (passing_ascends (set.contains s.members) 0 (s.limit + 1))

  pub members_small : s.limit < 2 ^ 32 → are_small (member_list s) ≡ true
  members_small small =
      passing_all (set.contains s.members) (λ n. nat_lt n (2 ^ 32))
      (λ k here. lt-ltb k (2 ^ 32) (omega (arith, (within k here).1))) 0 (s.limit + 1)

  pub axioms_back : s.limit < 2 ^ 32 → axioms_line s.limit (codes "axioms" ∷ map decimal (member_list s)) ≡ Some s
  axioms_back small =
      ap (option_and_then (axioms_numbered s.limit)) (numbers_back (member_list s) (members_small small))
      ∙ ap (λ b. if b then Some (axiom_set s.limit (member_list s)) else None) are_numbers
      ∙ ap Some members_again
