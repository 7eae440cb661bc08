-- What a closed table is for.
use Rattle.std.specs.Prelude.{ℕ, ◌<◌, List}
use Rattle.calculus_specs.specs.declared.facts.Fact.{Fact}
use Rattle.tableau_specs.specs.declared.Branch.{Branch}
use Rattle.tableau_specs.specs.declared.Item.{Item}
use Rattle.tableau_specs.specs.Steps.{SearchContext, below_of, MayBranch, IsLegal, IsSaturated, HasPlainClash}
use Rattle.tableau_specs.specs.Reached.{start, Follows}
use Rattle.tableau_specs.specs.StepLaws.{CarriedAreListed}
use Rattle.tableau_specs.specs.LineLaws.{IsNumbered}
use Rattle.absorption.specs.Closed.{IsClosed}

-- the table of a search is closed under what its roles carry
abbrev pub IsClosedFor : SearchContext → Type 0
IsClosedFor w = IsClosed (below_of w) w.theory.is_transitive w.table

-- each concept that is to be carried has a number, and so has each alternative of each choice
abbrev pub ClosedTablesLackNothing : Type 0
ClosedTablesLackNothing = (w : SearchContext) (fs : List (Fact ℕ)) → IsClosedFor w
    → CarriedAreListed w fs × ((b : Branch) → MayBranch w fs b → IsNumbered w.table b)

-- where no step is legal and there is no plain clash, the trail is saturated
abbrev pub NoStepIsAnEnd : Type 0
NoStepIsAnEnd = (w : SearchContext) (at sub not_sup k : ℕ) (trail : List Item) → at < w.first
    → Follows w (start at sub not_sup) k trail → IsClosedFor w
    → ¬ HasPlainClash w trail → ((new : List Item) → ¬ IsLegal w trail new) → IsSaturated w trail
