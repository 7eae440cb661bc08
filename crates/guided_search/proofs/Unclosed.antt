-- A search that goes where there is no closed tableau ends saturated.
use Rattle.std.proofs.Common.{◌≡◌, ℕ, zero, suc, ◌+◌, ◌<◌, ◌≤◌, List, [], ◌∷◌, ◌++◌, length, sym, subst, arith, inl}
use Rattle.std.proofs.Common.{inr}
use Rattle.std.proofs.lemmas.Bool.{cases_lt}
use Rattle.calculus_specs.specs.Shape.{Shape}
use Rattle.calculus_specs.specs.Rows.{Row}
use Rattle.calculus_specs.specs.Rules.{Question}
use Rattle.calculus_specs.specs.declared.facts.Fact.{Fact}
use Rattle.calculus_specs.specs.declared.facts.Fact.TheVariants.{Has}
use Rattle.tableau_specs.specs.declared.Branch.{Branch}
use Rattle.tableau_specs.specs.declared.Item.{Item}
use Rattle.tableau_specs.specs.Items.{facts_of, says}
use Rattle.tableau_specs.specs.Steps.{SearchContext, below_of, MayBranch, IsAlternative, IsLegal, IsSaturated}
use Rattle.tableau_specs.specs.Steps.{HasPlainClash}
use Rattle.tableau_specs.specs.Steps.IsLegal.{add, give, generate, choose, back}
use Rattle.tableau_specs.specs.StepLaws.{CarriedAreListed}
use Rattle.tableau_specs.specs.LineLaws.{IsNumbered}
use Rattle.tableau_specs.specs.Lines.{children_of_branch}
use Rattle.tableau_specs.specs.Reached.{context_of}
use Rattle.tableau_specs.proofs.BranchLines.{alternatives_are_children}
use Rattle.tableau_specs.proofs.End.{end_of_search}
use Rattle.tableau_specs.proofs.PlainClash.{plain_is_clash}
use Rattle.guided_search.specs.ClosedTableau.{ClosedTableau}
use Rattle.guided_search.specs.ClosedTableau.ClosedTableau.{by_clash, by_step, by_choice}
use Rattle.guided_search.proofs.Places.{got}
use Rattle.guided_search.proofs.Alternatives.{one_alternative}
use Rattle.guided_search.proofs.Closing.{Reached, ReachedLater, one_more, taken, reaches}

module _ (q : Question) (table : List Shape) (rows : List Row) where
  abbrev context : SearchContext
  context = context_of q table rows

  abbrev LacksNothing : Type 0
  LacksNothing = (fs : List (Fact ℕ))
      → CarriedAreListed context fs × ((b : Branch) → MayBranch context fs b → IsNumbered table b)

  module _ (lacks : LacksNothing) (k : ℕ) (trail : List Item) (r : Reached q table rows k trail)
      (later : (new : List Item) → ReachedLater q table rows k new → ¬ ¬ ClosedTableau context new)
      (none : ¬ ClosedTableau context trail) where
    no_step : (new : List (Fact ℕ)) → ¬ IsLegal context trail (trail ++ says new)
    no_step new legal =
        later (trail ++ says new)
        (record {
          steps = suc k;
          is_later = omega arith;
          reached = one_more q table rows k trail (trail ++ says new) r legal;
        })
        (λ tableau. none (by_step trail new legal tableau))

    module _ (line : ℕ) (b : Branch) (clear : ¬ HasPlainClash context trail)
        (may : MayBranch context (facts_of trail) b) where
      numbered : IsNumbered table b
      numbered = (lacks (facts_of trail)).1 b may

      abbrev taken_by : ℕ → Fact ℕ → List Item
      taken_by n f = taken q table rows k trail r line b clear may numbered n f

      -- one closed tableau more
      one_more_closed : (n : ℕ) (g : Fact ℕ)
          → ((j : ℕ) (h : Fact ℕ) → j ≤ n → IsAlternative table b j h → ClosedTableau context (taken_by j h))
          → IsAlternative table b (n + 1) g → ClosedTableau context (taken_by (n + 1) g)
          → (j : ℕ) (h : Fact ℕ) → j ≤ n + 1 → IsAlternative table b j h → ClosedTableau context (taken_by j h)
      one_more_closed n g closed new tableau j h le alternative = elim (cases_lt j (n + 1)) [
        | inl lt ↦ closed j h (omega (arith, lt)) alternative
        | inr ge ↦
            let number : j ≡ n + 1 = omega (arith, le, ge) in
            let same : h ≡ g =
            one_alternative table r.is_table b (n + 1) h g
            (subst (λ (i : ℕ). IsAlternative table b i h) number alternative) new in
            subst (λ (i : ℕ). ClosedTableau context (taken_by i h)) (sym number)
            (subst (λ (f : Fact ℕ). ClosedTableau context (taken_by (n + 1) f)) (sym same) tableau)
      ]

      none_closed : (m n : ℕ) → m + n ≡ length (children_of_branch 0 table [] b)
          → ((j : ℕ) (h : Fact ℕ) → j ≤ n → IsAlternative table b j h → ClosedTableau context (taken_by j h)) → ⊥
      none_closed zero n count closed =
          none
          (by_choice trail line b clear may numbered
          (λ j h alternative.
          let range = (alternatives_are_children table 0 [] b).in_range j h alternative in
          closed j h (omega (arith, range.1, count)) alternative))
      none_closed (suc m) n count closed =
          let child = got (children_of_branch 0 table [] b) n (omega (arith, count)) in
          let at = (alternatives_are_children table 0 [] b).only numbered n child.it child.is_there in
          later (taken_by (n + 1) at.0) (reaches q table rows k trail r line b clear may numbered n closed at.0 at.1)
          (λ tableau. none_closed m (n + 1) (omega (arith, count)) (one_more_closed n at.0 closed at.1 tableau))

      no_choice : ⊥
      no_choice =
          none_closed (length (children_of_branch 0 table [] b)) 0 (omega arith)
          (λ j h le alternative.
          let range = (alternatives_are_children table 0 [] b).in_range j h alternative in
          absurd (omega (arith, range.0, le)))

    stop : (new : List Item) → ¬ IsLegal context trail new
    stop new (add x e nc adds out) = no_step (Has x e ∷ []) (add x e nc adds out)
    stop new (give f nc given out) = no_step (f ∷ []) (give f nc given out)
    stop new (generate fs nc makes) = no_step fs (generate fs nc makes)
    stop new (choose c f nc may one alternative) = no_choice c.line c.branch nc may
    stop new (back place c f clash at alternative) = none (by_clash trail clash)

    saturates : IsSaturated context trail
    saturates =
        (end_of_search context q.at r.sub_number r.not_sup_number k trail r.at_first r.follows).1
        (λ plain. none (by_clash trail (plain_is_clash q.first (below_of context) table (facts_of trail) plain)))
        (lacks (facts_of trail)).0 stop

  module _ (lacks : LacksNothing) (bound : ℕ)
      (bounded : (k : ℕ) (trail : List Item) → Reached q table rows k trail → k ≤ bound)
      (never : (k : ℕ) (trail : List Item) → Reached q table rows k trail → ¬ IsSaturated context trail) where
    closes : (n k : ℕ) (trail : List Item) → bound < k + n → Reached q table rows k trail
        → ¬ ¬ ClosedTableau context trail
    closes zero k trail more r none = let le = bounded k trail r in omega (arith, more, le)
    closes (suc n) k trail more r none =
        never k trail r
        (saturates lacks k trail r (λ new l. closes n l.steps new (omega (arith, more, l.is_later)) l.reached) none)

    -- a search that never saturates begins with a trail from which there is a closed tableau
    pub begins_closed : (trail : List Item) → Reached q table rows 0 trail → ¬ ¬ ClosedTableau context trail
    begins_closed trail r = closes (bound + 1) 0 trail (omega arith) r
