-- The truth of the concept of a row.
use Rattle.std.proofs.Common.{◌≡◌, ℕ, suc, ◌+◌, ◌<◌, ◌||◌, Bool, true, false, not, cond, List, [], ◌∷◌, ◌++◌, map}
use Rattle.std.proofs.Common.{length, get_or, refl, ap, ◌∙◌, subst, arith, inl, inr}
use Rattle.std.specs.List.{list_all}
use Rattle.std.proofs.lemmas.Bool.{cases_Bool, and_from, or_left, or_right}
use Rattle.shq_nnf.specs.Concept.{Concept, top, parts_of}
use Rattle.role_box.specs.Normal.{negated_form}
use Rattle.role_box.specs.TheoryRows.{is_among, others_from, row_concept}
use Rattle.shq_nnf.specs.Truth.{Interpretation, holds, hold_any}
use Rattle.shq_nnf.proofs.Truth.{or_holds, negated_truth}

module _ (i : Interpretation) (v : ℕ) (d : Concept) (positions : List ℕ) where
  -- the union of the complements of these conjuncts and the right side
  abbrev one_of : List Concept → Bool
  one_of cs = hold_any i (parts_of (map negated_form cs ++ d ∷ [])) v

  others-among : (c : Concept) (cs : List Concept) (first : ℕ) → is_among positions first ≡ true
      → one_of (others_from first positions (c ∷ cs)) ≡ one_of (others_from (first + 1) positions cs)
  others-among c cs first h =
      ap
      (λ (b : Bool). one_of (cond b (others_from (first + 1) positions cs) (c ∷ others_from (first + 1) positions cs)))
      h

  others-not : (c : Concept) (cs : List Concept) (first : ℕ) → is_among positions first ≡ false
      → one_of (others_from first positions (c ∷ cs))
      ≡ (holds i (negated_form c) v || one_of (others_from (first + 1) positions cs))
  others-not c cs first h =
      ap
      (λ (b : Bool). one_of (cond b (others_from (first + 1) positions cs) (c ∷ others_from (first + 1) positions cs)))
      h

  -- one that is in the conjuncts at the positions is in the complement of another one or in the right side, if it is in
  -- that where it is in all
  one_holds : (cs : List Concept) (first : ℕ)
      → ((j : ℕ) → j < length cs → is_among positions (first + j) ≡ true → holds i (get_or cs j top) v ≡ true)
      → (list_all (λ c. holds i c v) cs ≡ true → holds i d v ≡ true) → one_of (others_from first positions cs) ≡ true
  one_holds [] first given right = or_left (holds i d v) false (right refl)
  one_holds (c ∷ cs) first given right =
      let later : (j : ℕ) → j < length cs → is_among positions ((first + 1) + j) ≡ true
      → holds i (get_or cs j top) v ≡ true =
      λ j lt h.
      let e : (first + 1) + j ≡ first + suc j = omega arith in
      given (suc j) (omega arith) (subst (λ (n : ℕ). is_among positions n ≡ true) e h) in
      elim (cases_Bool (holds i c v)) [
        | inl here ↦
            let rest =
            one_holds cs (first + 1) later
            (λ all. right (and_from (holds i c v) (list_all (λ e. holds i e v) cs) here all)) in
            elim (cases_Bool (is_among positions first)) [
              | inl among ↦ others-among c cs first among ∙ rest
              | inr other ↦
                  others-not c cs first other
                  ∙ or_right (holds i (negated_form c) v) (one_of (others_from (first + 1) positions cs)) rest
            ]
        | inr not_here ↦ elim (cases_Bool (is_among positions first)) [
          | inl among ↦
              let e : first ≡ first + 0 = omega arith in
              let here : holds i c v ≡ true =
              given 0 (omega arith) (subst (λ (n : ℕ). is_among positions n ≡ true) e among) in
              cc
          | inr other ↦
              others-not c cs first other
              ∙ or_left (holds i (negated_form c) v) (one_of (others_from (first + 1) positions cs))
              (negated_truth i c v ∙ ap not not_here)
        ]
      ]

  pub row_holds : (cs : List Concept)
      → ((j : ℕ) → j < length cs → is_among positions (1 + j) ≡ true → holds i (get_or cs j top) v ≡ true)
      → (list_all (λ c. holds i c v) cs ≡ true → holds i d v ≡ true) → holds i (row_concept cs d positions) v ≡ true
  row_holds cs given right =
      or_holds i v (map negated_form (others_from 1 positions cs) ++ d ∷ []) ∙ one_holds cs 1 given right
