-- From a saturated trail no step is legal.
use Rattle.std.proofs.Common.{◌≡◌, ℕ, ◌<◌, true, List, [], ◌∷◌, ◌++◌, refl, inl, inr}
use Rattle.std.proofs.lemmas.Bool.{cases_Bool}
use Rattle.calculus_specs.specs.Shape.{shape_of}
use Rattle.calculus_specs.specs.Shape.Shape.{all_of}
use Rattle.calculus_specs.specs.declared.facts.Fact.TheVariants.{Has}
use Rattle.calculus_specs.specs.State.{has, is_so}
use Rattle.tableau_specs.specs.declared.Branch.{Branch}
use Rattle.tableau_specs.specs.declared.Choice.{Choice}
use Rattle.tableau_specs.specs.declared.Item.{Item}
use Rattle.tableau_specs.specs.declared.Item.TheVariants.{Fact as Says, Mark}
use Rattle.tableau_specs.specs.Items.{facts_of, says}
use Rattle.tableau_specs.specs.Steps.{SearchContext, Adds, IsGiven, IsCarried, IsLegal, IsSaturated, HasClash}
use Rattle.tableau_specs.specs.Steps.{HasPlainClash}
use Rattle.tableau_specs.specs.Steps.Adds.{by_carry}
use Rattle.tableau_specs.specs.Steps.IsLegal.{add, give, generate, choose, back}
use Rattle.tableau_specs.specs.Reached.{start, Follows}
use Rattle.tableau_specs.specs.StepLaws.{CarriedAreListed}
use Rattle.tableau_specs.proofs.Saturated.{saturated_clear}
use Rattle.calculus_specs.specs.declared.facts.Fact.{Fact}

module _ (w : SearchContext) (trail : List Item) where
  no_step : IsSaturated w trail → ¬ HasClash w trail → (new : List Item) → ¬ IsLegal w trail new
  no_step sat clear new (add x d nc adds out) = let k = sat.no_add x d adds in cc
  no_step sat clear new (give f nc given out) = let k = sat.no_give f given in cc
  no_step sat clear new (generate fs nc makes) = sat.no_generate fs makes
  no_step sat clear new (choose c f nc may one alt) = sat.no_choose c.branch f may alt
  no_step sat clear new (back place c f clash read alt) = clear clash

  module _ (nc : ¬ HasPlainClash w trail) (closed : CarriedAreListed w (facts_of trail))
      (stop : (new : List Item) → ¬ IsLegal w trail new) where
    added : (x d : ℕ) → Adds w (facts_of trail) x d → has (facts_of trail) x d ≡ true
    added x d adds = elim (cases_Bool (has (facts_of trail) x d)) [
      | inl held ↦ held
      | inr out ↦ absurd (stop (trail ++ Says (Has x d) ∷ []) (add x d nc adds out))
    ]

    gave : (f : Fact ℕ) → IsGiven w f → is_so (facts_of trail) f ≡ true
    gave f given = elim (cases_Bool (is_so (facts_of trail) f))
        [ inl so ↦ so | inr out ↦ absurd (stop (trail ++ Says f ∷ []) (give f nc given out)) ]

    carried : (x y c s t e : ℕ) → IsCarried w (facts_of trail) x y c s t e
        → (d : ℕ) × (shape_of w.table d ≡ all_of t e) × (has (facts_of trail) y d ≡ true)
    carried x y c s t e h = let n = closed x y c s t e h in (n.0, n.1, added y n.0 (by_carry x y c s t e n.0 h n.1))

    abbrev first_of_it : Branch → Choice
    first_of_it b = record { line = 0; branch = b; alternative = 1 }

    saturated : IsSaturated w trail
    saturated = record {
      no_clash = nc;
      no_add = added;
      no_give = gave;
      no_carry = carried;
      no_generate = λ fs makes. stop (trail ++ says fs) (generate fs nc makes);
      no_choose =
          λ b f may alt. stop (trail ++ Mark (first_of_it b) ∷ Says f ∷ []) (choose (first_of_it b) f nc may refl alt);
    }

pub end_of_search : (w : SearchContext) (at sub not_sup k : ℕ) (trail : List Item) → at < w.first
    → Follows w (start at sub not_sup) k trail
    → (IsSaturated w trail → (new : List Item) → ¬ IsLegal w trail new)
    × (¬ HasPlainClash w trail → CarriedAreListed w (facts_of trail) → ((new : List Item) → ¬ IsLegal w trail new)
    → IsSaturated w trail)
end_of_search w at sub not_sup k trail lt r = (
  λ sat. no_step w trail sat (saturated_clear w at sub not_sup k trail lt r sat),
  λ nc closed stop. saturated w trail nc closed stop,
)
