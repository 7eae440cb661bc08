-- The numbers of the table that stand for concepts of a list.
use Rattle.std.proofs.Common.{◌≡◌, ℕ, zero, suc, ◌+◌, ◌<◌, ◌≤◌, eqb, Bool, true, false, List, map, length, ap, ◌∙◌, sym}
use Rattle.std.proofs.Common.{arith, inl, inr}
use Rattle.std.specs.List.{list_any, range_with_len, filter, IsDistinct, AllByRecursion}
use Rattle.std.specs.Cmp.{IsEquivalence}
use Rattle.std.proofs.lemmas.Bool.{cases_Bool, or_cases, false_from_ne_true}
use Rattle.std.proofs.lemmas.List.{length-map}
use Rattle.std.proofs.lemmas.Map.Made.{length-le_from_is_member}
use Rattle.shq_terms.specs.Concept.{Concept}
use Rattle.calculus_specs.specs.Same.{is_same}
use Rattle.calculus_specs.specs.Shape.{Shape, IsTable}
use Rattle.calculus_specs.specs.Tree.{tree_of}
use Rattle.calculus_specs.proofs.Same.{same_to_eq, same_itself, eq_to_same}
use Rattle.calculus_specs.proofs.Unique.{numbers_unique}
use Rattle.tableau_specs.proofs.Saturated.{in_range, in_filter}

-- ---- equal trees

same_back : (c d : Concept) → is_same c d ≡ is_same d c
same_back c d = elim (cases_Bool (is_same c d)) [
  | inl yes' ↦ yes' ∙ sym (eq_to_same d c (sym (same_to_eq c d yes')))
  | inr no' ↦ no' ∙ sym (false_from_ne_true (is_same d c) (λ k. let l = eq_to_same c d (sym (same_to_eq d c k)) in cc))
]

pub same_equiv : IsEquivalence is_same
same_equiv = record {
  refl = same_itself;
  symm = same_back;
  congr = λ x y z h. ap (λ (c : Concept). is_same c z) (same_to_eq x y h);
}

-- ---- the numbers

module _ (table : List Shape) (cs : List Concept) where
  abbrev stands_for : ℕ → Bool
  stands_for d = list_any (is_same (tree_of table d)) cs

  abbrev pub numbers_of : List ℕ
  numbers_of = filter stands_for (range_with_len 0 (length table))

  pub is_number : (d : ℕ) → d < length table → list_any (is_same (tree_of table d)) cs ≡ true
      → list_any (eqb d) numbers_of ≡ true
  is_number d lt h =
      in_filter stands_for d (range_with_len 0 (length table)) h
      (in_range d 0 (length table) (omega arith) (omega (arith, lt)))

  module _ (good : IsTable table) where
    other_tree : (c d : ℕ) → c < d → d < length table → is_same (tree_of table c) (tree_of table d) ≡ false
    other_tree c d lt mt = false_from_ne_true (is_same (tree_of table c) (tree_of table d)) (λ h.
        absurd (omega
        (arith, lt, numbers_unique table good c d (omega arith) mt (same_to_eq (tree_of table c) (tree_of table d) h))))

    others : (c a n : ℕ) → c < a → a + n ≤ length table
        → AllByRecursion (λ t. is_same (tree_of table c) t ≡ false)
        (map (tree_of table) (filter stands_for (range_with_len a n)))
    others c a zero lt le = tt
    others c a (suc n) lt le = elim (cases_Bool (stands_for a)) [
      | inl here ↦ rw here (other_tree c a lt (omega arith), others c (a + 1) n (omega arith) (omega arith))
      | inr out ↦ rw out (others c (a + 1) n (omega arith) (omega arith))
    ]

    distinct : (a n : ℕ) → a + n ≤ length table
        → IsDistinct is_same (map (tree_of table) (filter stands_for (range_with_len a n)))
    unfolding IsDistinct
    distinct a zero le = tt
    distinct a (suc n) le = elim (cases_Bool (stands_for a)) [
      | inl here ↦ rw here (others a (a + 1) n (omega arith) (omega arith), distinct (a + 1) n (omega arith))
      | inr out ↦ rw out (distinct (a + 1) n (omega arith))
    ]

    among : (q : Concept) (a n : ℕ)
        → list_any (is_same q) (map (tree_of table) (filter stands_for (range_with_len a n))) ≡ true
        → list_any (is_same q) cs ≡ true
    among q a zero h = cc
    among q a (suc n) h = elim (cases_Bool (stands_for a)) [
      | inl here ↦
          elim (or_cases (is_same q (tree_of table a))
          (list_any (is_same q) (map (tree_of table) (filter stands_for (range_with_len (a + 1) n)))) (rw here at h)) [
            | inl at ↦ ap (λ (c : Concept). list_any (is_same c) cs) (same_to_eq q (tree_of table a) at) ∙ here
            | inr later ↦ among q (a + 1) n later
          ]
      | inr out ↦ among q (a + 1) n (rw out at h)
    ]

    -- there are no more numbers than concepts
    pub few_numbers : length numbers_of ≤ length cs
    few_numbers =
        omega (
          arith,
          length-map numbers_of (tree_of table),
          length-le_from_is_member same_equiv (map (tree_of table) numbers_of) cs
              (distinct 0 (length table) (omega arith)) (λ q h. among q 0 (length table) h),
        )
