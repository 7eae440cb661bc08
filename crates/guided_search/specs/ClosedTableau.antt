-- Closed tableaux: trees of legal steps, each branch of which ends in a clash.
use Rattle.std.specs.Prelude.{ℕ, List, [], ◌∷◌, ◌++◌}
use Rattle.calculus_specs.specs.Shape.{Shape}
use Rattle.calculus_specs.specs.Rows.{Row}
use Rattle.calculus_specs.specs.Rules.{Question}
use Rattle.calculus_specs.specs.declared.facts.Fact.{Fact}
use Rattle.tableau_specs.specs.declared.Branch.{Branch}
use Rattle.tableau_specs.specs.declared.Item.{Item}
use Rattle.tableau_specs.specs.declared.Item.TheVariants.{Fact as Says, Mark}
use Rattle.tableau_specs.specs.Items.{facts_of, says}
use Rattle.tableau_specs.specs.Steps.{SearchContext, MayBranch, IsAlternative, IsLegal, HasClash, HasPlainClash}
use Rattle.tableau_specs.specs.LineLaws.{IsNumbered}
use Rattle.tableau_specs.specs.Reached.{context_of, IsReached}

-- A closed tableau from a trail: a tree with the trail at its root, each branch of which ends in a clash. A legal step
-- that puts facts leads to one trail more, and a choice to one for each of its alternatives. No step goes back, and a
-- tree may have as many nodes as it needs.
pub data ClosedTableau (w : SearchContext) : List Item → Type 0 where
  -- the trail has a clash
  by_clash : (trail : List Item) → HasClash w trail → ClosedTableau w trail
  -- a legal step puts facts, behind which there is a closed tableau
  by_step : (trail : List Item) (new : List (Fact ℕ)) → IsLegal w trail (trail ++ says new)
      → ClosedTableau w (trail ++ says new) → ClosedTableau w trail
  -- where `choose` is legal, there is a closed tableau behind each alternative, and each has a number of the table
  by_choice : (trail : List Item) (line : ℕ) (b : Branch) → ¬ HasPlainClash w trail
      → MayBranch w (facts_of trail) b → IsNumbered w.table b
      → ((n : ℕ) (f : Fact ℕ) → IsAlternative w.table b n f
      → ClosedTableau w (trail ++ Mark (record { line = line; branch = b; alternative = n }) ∷ Says f ∷ []))
      → ClosedTableau w trail

-- over some table and rows there is a closed tableau from the trail with which a search for what is in question begins
pub record HasClosedTableau (q : Question) : Type 0 where
  pub table : List Shape
  pub rows : List Row
  pub trail : List Item
  pub begun : IsReached q table rows 0 trail
  pub tableau : ClosedTableau (context_of q table rows) trail
