-- What is so in two worlds over the natural numbers.
use Rattle.std.proofs.Common.{◌≡◌, ℕ, ◌+◌, [], ◌∷◌, refl, ◌∙◌, sym, arith}
use Rattle.std.specs.List.{AllPairs}
use Rattle.std.proofs.lemmas.Bool.{eqb-true, eq-eqb}
use Rattle.std.proofs.lemmas.List.Elements.{All-nil, All-cons, All-head}
use Rattle.std.proofs.lemmas.List.Kept.{AllPairs-cons}
use Rattle.shq_nnf.specs.Concept.{Concept, top, name}
use Rattle.all_worlds.specs.Worlds.{AreMany, IsSuccessor, IsIn, AreDisjoint}
use Rattle.all_worlds.specs.Examples.{chain, crowd, ExamplesHold}
use Rattle.all_worlds.proofs.Lists.{pairs_head, no_pairs}

pair : (R : ℕ → ℕ → Type 0) (x y : ℕ) → R x y → AllPairs R (x ∷ y ∷ [])
pair R x y h =
    AllPairs-cons R x (y ∷ []) (All-cons (R x) y [] h (All-nil (R x)))
    (AllPairs-cons R y [] (All-nil (R y)) (no_pairs R))

abbrev IsAny : ℕ → Type 0
IsAny y = IsSuccessor crowd 0 0 (IsIn crowd top) y

two : AreMany IsAny 2 (0 ∷ 1 ∷ [])
two = record {
  count = refl;
  distinct = pair (λ y z. ¬ (y ≡ z)) 0 1 (λ e. absurd (omega (arith, e)));
  each = All-cons IsAny 0 (1 ∷ []) (refl, tt) (All-cons IsAny 1 [] (refl, tt) (All-nil IsAny));
}

abbrev Apart : Concept → Concept → Type 0
Apart c e = AreDisjoint chain c e

pub worked_out : ExamplesHold
worked_out = record {
  it_goes_on = λ x i none. none (x + 1) (eq-eqb (x + 1) (x + 1) refl) tt;
  one_successor = λ x y z e f k. k (eqb-true y (x + 1) e ∙ sym (eqb-true z (x + 1) f));
  two_successors = λ h. h 0 0 1 refl refl (λ e. absurd (omega (arith, e)));
  at_least_two = λ none. none (0 ∷ 1 ∷ []) two;
  not_at_most_one = λ few. few (0 ∷ 1 ∷ []) two;
  not_transitive = λ h. let e = eqb-true 2 (0 + 1) (h 0 1 2 refl refl) in absurd (omega (arith, e));
  transitive = λ x y z e f. refl;
  one_member = λ k a lt j b less differ. differ refl;
  other_members = pair (λ a b. ¬ (a ≡ b)) 0 1 (λ e. absurd (omega (arith, e)));
  itself = λ h. All-head (λ b. ¬ (1 ≡ b)) 1 [] (pairs_head (λ a b. ¬ (a ≡ b)) 1 (1 ∷ []) h) refl;
  disjoint =
      AllPairs-cons Apart (name 0) (name 1 ∷ [])
      (All-cons (Apart (name 0)) (name 1) []
      (λ x zero_is one_is.
      let e = eqb-true x 0 zero_is in let f = eqb-true x 1 one_is in absurd (omega (arith, e, f)))
      (All-nil (Apart (name 0))))
      (AllPairs-cons Apart (name 1) [] (All-nil (Apart (name 1))) (no_pairs Apart));
  a_domain_has_a_member = λ h. h 0 tt;
}
