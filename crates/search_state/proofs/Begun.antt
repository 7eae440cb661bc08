-- The plain clash of a search that begins.
use Rattle.std.proofs.Common.{◌≡◌, ℕ, ◌<◌, ◌||◌, eqb, Bool, true, false, cond, List, [], ◌∷◌, length, Option, Some}
use Rattle.std.proofs.Common.{None, refl, ap, ◌∙◌, sym, subst, arith, inl, inr}
use Rattle.std.specs.Prelude.{MatchOption}
use Rattle.std.specs.List.{filter, range_with_len}
use Rattle.calculus_specs.specs.Joins.{rep}
use Rattle.std.proofs.lemmas.Bool.{and_right, or_cases, or_left, eqb-true}
use Rattle.calculus_specs.specs.Shape.{Shape, shape_of, IsTable}
use Rattle.calculus_specs.specs.Shape.Shape.{top, bottom, name, at_most}
use Rattle.calculus_specs.specs.declared.facts.Fact.{Fact}
use Rattle.calculus_specs.specs.declared.facts.Fact.TheVariants.{Has}
use Rattle.calculus_specs.specs.State.{has, is_successor}
use Rattle.tableau_specs.specs.Clash.{IsPlainClash, filled_successors}
use Rattle.tableau_specs.specs.Clash.IsPlainClash.{plain_bottom, plain_names, plain_most, plain_differ}
use Rattle.tableau_specs.specs.Steps.{SearchContext, below_of}
use Rattle.tableau_specs.specs.Near.{IsOverrun, ClashesBy}
use Rattle.tableau_specs.specs.Near.ClashesBy.{by_bottom, by_name, by_complement, by_most, by_filler}
use Rattle.tableau_specs.proofs.Concept.{concept_clashes}
use Rattle.search_trace.specs.Among.{IsAmong}
use Rattle.step_finders.specs.declared.clash.Clash.{Clash}
use Rattle.step_finders.specs.Clashing.{NoClashBy, IsShown}
use Rattle.search_state.specs.Progress.{IsClashOf}
use Rattle.search_state.proofs.Holding.{so_more}

none_pass : (p : ℕ → Bool) → ((y : ℕ) → p y ≡ false) → (ys : List ℕ) → filter p ys ≡ []
none_pass p none [] = refl
none_pass p none (y ∷ ys) = ap (λ (b : Bool). cond b (y ∷ filter p ys) (filter p ys)) (none y) ∙ none_pass p none ys

module _ (w : SearchContext) (is : IsTable w.table) where
  abbrev below : ℕ → ℕ → Bool
  below = below_of w

  -- where there are no facts, a node has concept 0 alone
  only_top : (x c : ℕ) → has [] x c ≡ true → (s : Shape) → shape_of w.table c ≡ s → top ≡ s
  only_top x c h s sh = elim (or_cases (eqb c 0) false h) [
    | inl zero ↦ sym is.begins_with_top ∙ ap (λ (k : ℕ). shape_of w.table k) (sym (eqb-true c 0 zero)) ∙ sh
    | inr wrong ↦ absurd (cc wrong)
  ]

  none_yet : ¬ IsPlainClash w.first below w.table []
  none_yet (plain_bottom x c lt h sh) = absurd (cc (only_top x c h bottom sh))
  none_yet (plain_names x c d a lt h sh g th) = absurd (cc (only_top x c h (name a) sh))
  none_yet (plain_most x c n s e lt h sh more apart) = absurd (cc (only_top x c h (at_most n s e) sh))
  none_yet (plain_differ y z lt mt apart same) = absurd (cc apart)

  module _ (at sub not_sup : ℕ) (at_first : at < w.first) where
    abbrev one : List (Fact ℕ)
    one = Has at sub ∷ []

    abbrev both : List (Fact ℕ)
    both = Has at sub ∷ Has at not_sup ∷ []

    among : IsAmong one both
    among p h = elim (or_cases (p (Has at sub)) false h) [
      | inl here ↦ or_left (p (Has at sub)) (p (Has at not_sup) || false) here
      | inr wrong ↦ absurd (cc wrong)
    ]

    has_more : (x c : ℕ) → has one x c ≡ true → has both x c ≡ true
    has_more x c h = so_more one both among (Has x c) h

    none_after : (x s e : ℕ) → filled_successors w.first below one x s e ≡ []
    none_after x s e =
        ap (filter (λ y. has one y e))
        (none_pass (is_successor one (λ r. below r s) x) (λ y. and_right (eqb (rep one y) y) false refl)
        (range_with_len 0 w.first))

    not_over : (x c n s e : ℕ) → IsOverrun w.first below w.table one x c n s e → ⊥
    not_over x c n s e over = omega (arith, over.more, ap length (none_after x s e))

    clashes_more : ClashesBy w.first below w.table one at sub → ClashesBy w.first below w.table both at sub
    clashes_more (by_bottom sh) = by_bottom sh
    clashes_more (by_name c a sh h th) = by_name c a sh (has_more at c h) th
    clashes_more (by_complement c a sh h th) = by_complement c a sh (has_more at c h) th
    clashes_more (by_most n s e over) = absurd (not_over at sub n s e over)
    clashes_more (by_filler z c n s lt edge over) = absurd (not_over z c n s sub over)

    none_at_start : NoClashBy w both at sub → NoClashBy w both at not_sup → ¬ IsPlainClash w.first below w.table both
    none_at_start free also clash =
        let before : ¬ IsPlainClash w.first below w.table one =
        λ c. free.none (clashes_more ((concept_clashes w.first below w.table [] at sub at_first none_yet).0 c)) in
        also.none ((concept_clashes w.first below w.table one at not_sup at_first before).0 clash)

    pub clash_at_start : (fs : List (Fact ℕ)) → fs ≡ both → NoClashBy w fs at sub → (found : Option Clash)
        → MatchOption found (NoClashBy w fs at not_sup) (IsShown w fs) → IsClashOf w fs found
    clash_at_start fs e free None h =
        subst (λ (gs : List (Fact ℕ)). NoClashBy w gs at sub → NoClashBy w gs at not_sup
        → ¬ IsPlainClash w.first below w.table gs)
        (sym e) none_at_start free h
    clash_at_start fs e free (Some clash) h = h
