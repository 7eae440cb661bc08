-- The representative of a first node is an element, and is like itself.
use Rattle.std.proofs.Common.{◌≡◌, ℕ, suc, ◌+◌, ◌<◌, eqb, cond, Bool, true, false, List, [], ◌∷◌, length, get_or, ap}
use Rattle.std.proofs.Common.{◌∙◌, sym, arith, inl, inr, eq-eqb}
use Rattle.std.specs.List.{list_any, range_with_len}
use Rattle.std.proofs.lemmas.Bool.{and_from, cases_Bool, cases_lt, or_cases, eqb-true, lt-ltb}
use Rattle.calculus_specs.specs.declared.facts.Fact.{Fact}
use Rattle.calculus_specs.specs.Joins.{rep}
use Rattle.calculus_specs.specs.State.{node_count_from, parent_from}
use Rattle.calculus_specs.proofs.Joined.{rep-le, rep-joined, joined-rep}
use Rattle.tableau_specs.specs.declared.Block.{Block}
use Rattle.tableau_specs.specs.declared.Block.TheVariants.{Clear, Under}
use Rattle.tableau_specs.specs.Blocked.{blocks_to, is_parent_clear, blocked_from, block_of}
use Rattle.tableau_specs.proofs.TreeShaped.{first_le}
use Rattle.tableau_specs.proofs.Saturated.{in_range, in_filter}
use Rattle.search_laws.specs.Elements.{is_above, is_element, elements, IsNumberOf, place_in, number_at, original_by}
use Rattle.search_laws.specs.Elements.{original}
use Rattle.search_laws.proofs.Counting.{passing_ascends}

-- ---- places in a list

record IsPlaceIn (xs : List ℕ) (y : ℕ) : Type 0 where
  is_within : place_in xs y < length xs
  is_there : get_or xs (place_in xs y) 0 ≡ y

placed : (xs : List ℕ) (y : ℕ) → list_any (eqb y) xs ≡ true → IsPlaceIn xs y
placed [] y h = cc
placed (x ∷ xs) y h = elim (cases_Bool (eqb x y)) [
  | inl here ↦
      let at : place_in (x ∷ xs) y ≡ 0 = ap (λ (b : Bool). cond b 0 (place_in xs y + 1)) here in
      record { is_within = omega (arith, at); is_there = ap (λ (n : ℕ). get_or (x ∷ xs) n 0) at ∙ eqb-true x y here }
  | inr other ↦
      let at : place_in (x ∷ xs) y ≡ place_in xs y + 1 = ap (λ (b : Bool). cond b 0 (place_in xs y + 1)) other in
      let rest = placed xs y (later other) in
      let next : get_or (x ∷ xs) (place_in xs y + 1) 0 ≡ get_or xs (place_in xs y) 0 =
      let k : place_in xs y + 1 ≡ suc (place_in xs y) = omega arith in ap (λ (n : ℕ). get_or (x ∷ xs) n 0) k in
      record {
        is_within = omega (arith, at, rest.is_within);
        is_there = ap (λ (n : ℕ). get_or (x ∷ xs) n 0) at ∙ next ∙ rest.is_there;
      }
]
  where
    later : eqb x y ≡ false → list_any (eqb y) xs ≡ true
    later other = elim (or_cases (eqb y x) (list_any (eqb y) xs) h) [
      | inl here ↦ (let same = eqb-true y x here in let again = eq-eqb x y (sym same) in cc)
      | inr rest ↦ rest
    ]

-- ---- first nodes

pub rep-rep : (fs : List (Fact ℕ)) (x : ℕ) → rep fs (rep fs x) ≡ rep fs x
rep-rep fs x = sym (rep-joined fs x (rep fs x) (joined-rep fs x))

module _ (first : ℕ) (fs : List (Fact ℕ)) where
  pub first_is_clear : (x : ℕ) → x < first → block_of first fs x ≡ Clear
  first_is_clear x lt =
      ap (λ (t : Bool). cond t Clear
      (cond (is_parent_clear fs (blocks_to first fs x) (parent_from first fs x))
      (blocked_from fs (blocks_to first fs x) x 0 x) Under))
      (lt-ltb x first lt)

  pub rep_is_first : (x : ℕ) → x < first → rep fs x < first
  rep_is_first x lt = omega (arith, rep-le fs x)

  pub first_is_element : (x : ℕ) → x < first → is_element first fs (rep fs x) ≡ true
  first_is_element x lt =
      and_from (eqb (rep fs (rep fs x)) (rep fs x)) (is_above (block_of first fs (rep fs x)))
      (eq-eqb (rep fs (rep fs x)) (rep fs x) (rep-rep fs x))
      (ap is_above (first_is_clear (rep fs x) (rep_is_first x lt)))

  -- it is like itself
  pub first_original : (x : ℕ) → x < first → original first fs (rep fs x) ≡ rep fs x
  first_original x lt = ap (λ (b : Block). original_by b (rep fs x)) (first_is_clear (rep fs x) (rep_is_first x lt))

  -- the number that is computed for it is its number
  pub first_number : (x : ℕ) → x < first → IsNumberOf first fs x (number_at first fs x)
  first_number x lt =
      let node : rep fs x < node_count_from first fs = omega (arith, rep_is_first x lt, first_le first fs) in
      let p =
      placed (elements first fs) (rep fs x)
      (in_filter (is_element first fs) (rep fs x) (range_with_len 0 (node_count_from first fs)) (first_is_element x lt)
      (in_range (rep fs x) 0 (node_count_from first fs) (omega arith) (omega (arith, node)))) in
      record { is_within = p.is_within; is_there = p.is_there }

  -- nodes that are one are one element
  pub one_number : (x y v u : ℕ) → rep fs x ≡ rep fs y → IsNumberOf first fs x v → IsNumberOf first fs y u → v ≡ u
  one_number x y v u same n m = elim (cases_lt v u) [
    | inl less ↦ absurd (omega (
      arith,
      same,
      n.is_there,
      m.is_there,
      passing_ascends (is_element first fs) (node_count_from first fs) v u 0 less m.is_within,
    ))
    | inr le ↦ elim (cases_lt u v) [
      | inl less ↦ absurd (omega (
        arith,
        same,
        n.is_there,
        m.is_there,
        passing_ascends (is_element first fs) (node_count_from first fs) u v 0 less n.is_within,
      ))
      | inr ge ↦ omega arith
    ]
  ]
