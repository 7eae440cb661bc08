-- Each 'at most' among the first numbers of a table.
use Rattle.std.specs.Prelude.{◌≡◌, ℕ, ◌<◌, ◌==◌, true, List, All, Option, None, Some}
use Rattle.std.specs.List.{list_any}
use Rattle.calculus_specs.specs.Shape.{Shape, shape_of}
use Rattle.calculus_specs.specs.Shape.Shape.{at_most}
use Rattle.step_finders.specs.Clashing.{IsMost}

-- the filler of a shape 'at most'
abbrev pub filler_of_most : Shape → Option ℕ
filler_of_most (at_most n s e) = Some e
filler_of_most _ = None

-- the list has each 'at most' with this filler that is below the bound
pub record AreMostsTo (table : List Shape) (bound d : ℕ) (cs : List ℕ) : Type 0 where
  pub each : All (IsMost table d) cs
  pub every : (c n s : ℕ) → c < bound → shape_of table c ≡ at_most n s d → list_any (λ k. k == c) cs ≡ true
