-- What the concept of a row says of an element that is in all conjuncts.
use Rattle.std.proofs.Common.{◌≡◌, ℕ, ◌+◌, ◌||◌, Bool, true, false, not, cond, List, [], ◌∷◌, ◌++◌, map, ap, ◌∙◌, sym}
use Rattle.std.proofs.Common.{inl, inr}
use Rattle.std.specs.List.{list_all}
use Rattle.std.proofs.lemmas.Bool.{cases_Bool, and_parts}
use Rattle.std.proofs.Math.Bool.{or-false}
use Rattle.shq_terms.specs.Concept.{Concept, parts_of}
use Rattle.calculus_specs.specs.Normal.{negated_form}
use Rattle.calculus_specs.specs.Rows.{is_among, others_from, row_concept}
use Rattle.ontology_limits.specs.Truth.{Interpretation, holds, hold_any}
use Rattle.ontology_limits.proofs.Truth.{or_holds, negated_truth}

module _ (i : Interpretation) (v : ℕ) (d : Concept) (positions : List ℕ) where
  abbrev one_of : List Concept → Bool
  one_of cs = hold_any i (parts_of (map negated_form cs ++ d ∷ [])) v

  -- an element that is in all of these is not in a complement of one
  rest_is : (cs : List Concept) (first : ℕ) → list_all (λ c. holds i c v) cs ≡ true
      → one_of (others_from first positions cs) ≡ true → holds i d v ≡ true
  rest_is [] first all h = sym (or-false (holds i d v)) ∙ h
  rest_is (c ∷ cs) first all h =
      let t = and_parts (holds i c v) (list_all (λ e. holds i e v) cs) all in
      elim (cases_Bool (is_among positions first)) [
        | inl among ↦
            rest_is cs (first + 1) t.1
            (sym (ap (λ (b : Bool). one_of
            (cond b (others_from (first + 1) positions cs) (c ∷ others_from (first + 1) positions cs)))
            among)
            ∙ h)
        | inr other ↦
            let k : (holds i (negated_form c) v || one_of (others_from (first + 1) positions cs)) ≡ true =
            sym (ap (λ (b : Bool). one_of
            (cond b (others_from (first + 1) positions cs) (c ∷ others_from (first + 1) positions cs)))
            other)
            ∙ h in
            let out : holds i (negated_form c) v ≡ false = negated_truth i c v ∙ ap not t.0 in
            rest_is cs (first + 1) t.1
            (sym (ap (λ (b : Bool). b || one_of (others_from (first + 1) positions cs)) out) ∙ k)
      ]

  pub row_gives : (cs : List Concept) → list_all (λ c. holds i c v) cs ≡ true
      → holds i (row_concept cs d positions) v ≡ true → holds i d v ≡ true
  row_gives cs all h =
      rest_is cs 1 all (sym (or_holds i v (map negated_form (others_from 1 positions cs) ++ d ∷ [])) ∙ h)
