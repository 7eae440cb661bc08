-- What is in the conjuncts of a row is in its concept, in every world.
use Rattle.std.proofs.Common.{◌≡◌, ℕ, suc, ◌+◌, ◌<◌, Bool, true, cond, List, [], ◌∷◌, ◌++◌, map, length}
use Rattle.std.proofs.Common.{get_or, ap, subst, arith, inl, inr}
use Rattle.std.specs.Prelude.{All}
use Rattle.std.proofs.lemmas.Bool.{cases_Bool}
use Rattle.std.proofs.lemmas.List.Elements.{All-nil, All-cons}
use Rattle.shq_nnf.specs.Concept.{Concept, top, parts_of}
use Rattle.role_box.specs.Normal.{negated_form}
use Rattle.role_box.specs.TheoryRows.{is_among, others_from, row_concept}
use Rattle.all_worlds.specs.Worlds.{World, IsIn, IsInNone}
use Rattle.all_worlds.proofs.Stable.{stable}
use Rattle.all_worlds.proofs.Normal.{or_in, negated_in}

module _ {d : Type 0} (w : World d) (v : d) (right : Concept) (positions : List ℕ) where
  -- neither in the complement of one of these conjuncts nor in the right side
  abbrev InNoneOf : List Concept → Type 0
  InNoneOf cs = IsInNone w (parts_of (map negated_form cs ++ right ∷ [])) v

  -- one that is in the conjuncts at the positions, and in no complement of the others, is in all
  in_all : (cs : List Concept) (first : ℕ)
      → ((j : ℕ) → j < length cs → is_among positions (first + j) ≡ true → IsIn w (get_or cs j top) v)
      → InNoneOf (others_from first positions cs) → All (λ c. IsIn w c v) cs × (¬ IsIn w right v)
  in_all [] first given none = (All-nil (λ c. IsIn w c v), none.0)
  in_all (c ∷ cs) first given none = elim (cases_Bool (is_among positions first)) [
    | inl among ↦
        let same : others_from first positions (c ∷ cs) ≡ others_from (first + 1) positions cs =
        ap (λ (b : Bool). cond b (others_from (first + 1) positions cs) (c ∷ others_from (first + 1) positions cs)) among
        in
        let rest = in_all cs (first + 1) later (subst InNoneOf same none) in
        let e : first ≡ first + 0 = omega arith in
        let here = given 0 (omega arith) (subst (λ (n : ℕ). is_among positions n ≡ true) e among) in
        (All-cons (λ c. IsIn w c v) c cs here rest.0, rest.1)
    | inr other ↦
        let same : others_from first positions (c ∷ cs) ≡ c ∷ others_from (first + 1) positions cs =
        ap (λ (b : Bool). cond b (others_from (first + 1) positions cs) (c ∷ others_from (first + 1) positions cs)) other
        in
        let both = subst InNoneOf same none in
        let rest = in_all cs (first + 1) later both.1 in
        let here = stable w c v (λ n. both.0 ((negated_in w c v).1 n)) in
        (All-cons (λ c. IsIn w c v) c cs here rest.0, rest.1)
  ]
    where
      later : (j : ℕ) → j < length cs → is_among positions ((first + 1) + j) ≡ true → IsIn w (get_or cs j top) v
      later j lt h =
          let e : (first + 1) + j ≡ first + suc j = omega arith in
          given (suc j) (omega arith) (subst (λ (n : ℕ). is_among positions n ≡ true) e h)

  pub row_in : (cs : List Concept)
      → ((j : ℕ) → j < length cs → is_among positions (1 + j) ≡ true → IsIn w (get_or cs j top) v)
      → (All (λ c. IsIn w c v) cs → IsIn w right v) → IsIn w (row_concept cs right positions) v
  row_in cs given so =
      (or_in w v (map negated_form (others_from 1 positions cs) ++ right ∷ [])).1
      (λ none. let all = in_all cs 1 given none in all.1 (so all.0))
