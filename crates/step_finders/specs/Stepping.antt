-- The next step of a search, and when there is none.
use Rattle.std.specs.Prelude.{ℕ, List}
use Rattle.calculus_specs.specs.declared.facts.Fact.{Fact}
use Rattle.tableau_specs.specs.declared.Item.{Item}
use Rattle.tableau_specs.specs.Items.{facts_of}
use Rattle.tableau_specs.specs.Steps.{SearchContext, IsSaturated, HasPlainClash}
use Rattle.step_finders.specs.declared.step.Step.{Step}
use Rattle.step_finders.specs.declared.step.Step.TheVariants.{Give, Add, Generate, Choose}
use Rattle.step_finders.specs.Giving.{IsGiving, NothingToGive}
use Rattle.step_finders.specs.Found.{Files, NothingToAdd}
use Rattle.step_finders.specs.Reasons.{IsAddition}
use Rattle.step_finders.specs.Choosing.{IsChoosable, NothingToChoose}
use Rattle.step_finders.specs.Making.{IsMaking, NothingToMake}

module _ (w : SearchContext) (fs : List (Fact ℕ)) where
  -- the step can be made where there is no plain clash
  abbrev pub IsStep : Files → Step → Type 0
  IsStep files (Give g) = IsGiving w fs g
  IsStep files (Add a) = IsAddition w fs files a
  IsStep files (Generate m) = IsMaking w fs m
  IsStep files (Choose b) = IsChoosable w fs b

  pub record NoStep : Type 0 where
    pub no_give : NothingToGive w fs
    pub no_add : NothingToAdd w fs
    pub no_making : NothingToMake w fs
    pub no_choice : NothingToChoose w fs

-- without a plain clash, a trail whose facts leave no step is saturated
abbrev pub NoStepIsSaturated : Type 0
NoStepIsSaturated = (w : SearchContext) (trail : List Item) → ¬ HasPlainClash w trail → NoStep w (facts_of trail)
    → IsSaturated w trail
