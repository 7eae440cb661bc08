-- A refutation can be read line by line.
use Rattle.std.specs.Prelude.{◌≡◌, ℕ, ◌↔◌, ◌⊎◌, List, [], ◌∷◌, Some}
use Rattle.calculus_specs.specs.Shape.{Shape}
use Rattle.calculus_specs.specs.Line.{Line}
use Rattle.calculus_specs.specs.Rules.{Question, nothing_known}
use Rattle.calculus_specs.specs.Valid.{concept_at, open_after_all, IsBrokenAt, IsRefutation}

-- lines are a refutation exactly where they leave no branch open and none of them is left over
abbrev pub StackFindsTrees : Type 0
StackFindsTrees = (q : Question) (shapes : List Shape) (lines : List Line)
    → IsRefutation q shapes lines ↔ (open_after_all q (concept_at shapes) (nothing_known ∷ []) lines ≡ Some [])

-- lines that are no refutation break the rules at one place, and those of a refutation at none
pub record IsJudged (q : Question) (shapes : List Shape) (lines : List Line) : Type 0 where
  pub one_way : IsRefutation q shapes lines ⊎ ((place : ℕ) × IsBrokenAt q (concept_at shapes) lines place)
  pub not_both : IsRefutation q shapes lines → (place : ℕ) → ¬ IsBrokenAt q (concept_at shapes) lines place
  pub only_place : (place other : ℕ) → IsBrokenAt q (concept_at shapes) lines place
      → IsBrokenAt q (concept_at shapes) lines other → place ≡ other

-- any list of rule lines, for any question and shapes, is judged line by line
abbrev pub LinesAreJudged : Type 0
LinesAreJudged = (q : Question) (shapes : List Shape) (lines : List Line) → IsJudged q shapes lines
