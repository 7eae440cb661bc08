-- The choices of a search as lines that branch.
use Rattle.std.specs.Prelude.{◌≡◌, ℕ, ◌+◌, ◌<◌, List, [], ◌∷◌, length, Some, slice_get}
use Rattle.calculus_specs.specs.Shape.{Shape, IsTable}
use Rattle.calculus_specs.specs.Rules.{Question}
use Rattle.calculus_specs.specs.declared.facts.Fact.{Fact}
use Rattle.calculus_specs.specs.Line.{Line}
use Rattle.calculus_specs.specs.Line.Line.{or_line, choose_line, pair_line}
use Rattle.tableau_specs.specs.declared.Branch.{Branch}
use Rattle.tableau_specs.specs.declared.Branch.TheVariants.{Or, Choose, Pair}
use Rattle.tableau_specs.specs.Steps.{IsAlternative}
use Rattle.tableau_specs.specs.Lines.{concept_in}
use Rattle.search_trace.specs.Premises.{Added, Rule, rule_of}
use Rattle.search_trace.specs.Trail.{Puts}

-- the rule line of a choice
abbrev pub branch_line : Branch → Line
branch_line (Or x c) = or_line x c
branch_line (Choose y c) = choose_line y c
branch_line (Pair y z) = pair_line y z

-- whether the concept number of the choice, if it has one, is listed
abbrev pub HasShape : List Shape → Branch → Type 0
HasShape table (Or x c) = c < length table
HasShape table (Choose y c) = c < length table
HasShape table (Pair y z) = Unit {0}

-- the rule of the choice's line, whose child in the place of the alternative adds its fact
pub record IsPut (q : Question) (table : List Shape) (b : Branch) (k : ℕ) (f : Fact ℕ) : Type 0 where
  pub rule : Rule
  pub is_rule : rule_of q (concept_in table) (branch_line b) ≡ Some rule
  pub added : Added
  pub is_child : slice_get rule.children k ≡ Some added
  pub puts : Puts q.first table added (f ∷ [])

-- each alternative of a choice is put: the child of the line in its place adds its fact
abbrev pub AlternativesArePut : Type 0
AlternativesArePut = (q : Question) (table : List Shape) → IsTable table → (b : Branch) → HasShape table b
    → (k : ℕ) (f : Fact ℕ) → IsAlternative table b (k + 1) f → IsPut q table b k f
