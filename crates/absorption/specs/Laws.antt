-- Where the rows of a table are found.
use Rattle.std.specs.Prelude.{ℕ, List, Contains}
use Rattle.calculus_specs.specs.Shape.{Shape}
use Rattle.absorption.specs.declared.row.Row.{Row}
use Rattle.absorption.specs.declared.row.Trigger.{Trigger}
use Rattle.absorption.specs.declared.row.Trigger.TheVariants.{Always, Names, Edge, End}
use Rattle.absorption.specs.Places.{FiledRows, rows_under, all_filed, WaitsForName, WaitsForEdge, WaitsForNothing}
use Rattle.absorption.specs.Places.{KeysDiffer, StandInPlaces}

-- the row is found by what it waits for
abbrev pub IsFoundBy : Trigger → List Shape → FiledRows → Row → Type 0
IsFoundBy Always table f r = Contains f.general r
IsFoundBy (Names positions) table f r = (class : ℕ) × WaitsForName table class r
    × Contains (rows_under f.at_names class) r
IsFoundBy (Edge role) table f r = Contains (rows_under f.at_roles role) r
IsFoundBy (End role) table f r = Contains (rows_under f.at_roles role) r

-- what is found is a row of the table that waits for that by which it is found
pub record FindsItsRows (table : List Shape) (f : FiledRows) : Type 0 where
  pub by_name : (class : ℕ) (r : Row) → Contains (rows_under f.at_names class) r
      → Contains (all_filed f) r × WaitsForName table class r
  pub by_role : (role : ℕ) (r : Row) → Contains (rows_under f.at_roles role) r
      → Contains (all_filed f) r × WaitsForEdge role r
  pub general : (r : Row) → Contains f.general r → Contains (all_filed f) r × WaitsForNothing r

-- rows that stand in their places are found there
abbrev pub FoundRowsWait : Type 0
FoundRowsWait = (table : List Shape) (f : FiledRows) → StandInPlaces table f → FindsItsRows table f

-- and each row of the table is found
abbrev pub EachRowIsFound : Type 0
EachRowIsFound = (table : List Shape) (f : FiledRows) → StandInPlaces table f → KeysDiffer f → (r : Row)
    → Contains (all_filed f) r → IsFoundBy r.trigger table f r
