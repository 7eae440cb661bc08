-- Sets of classes, one for each individual.
use Rattle.std.specs.Prelude.{◌≡◌, ℕ, ◌<◌, Bool, List, length}
use Rattle.axiom_sets.specs.Sets.{Limited}
use Rattle.subsumption.specs.Matrices.{row_in}
use Rattle.subsumption.specs.ClassSets.{has_class, HoldsClasses}

-- whether the row of an individual has the class
abbrev pub typed_by : List Limited → ℕ → ℕ → Bool
typed_by rows a x = has_class (row_in rows a) x

-- there is one row for each of so many individuals, and each has classes below the count alone
pub record AreTypeRows (count individuals : ℕ) (rows : List Limited) : Type 0 where
  pub long : length rows ≡ individuals
  pub each : (a : ℕ) → a < individuals → HoldsClasses count (typed_by rows a) (row_in rows a)
