-- The table of the rows of some axioms.
use Rattle.std.specs.Prelude.{◌≡◌, ℕ, List, All, Some}
use Rattle.calculus_specs.specs.Shape.{Shape}
use Rattle.calculus_specs.specs.Rows.{Part, Theory, part_at, IsChoice}
use Rattle.shq_terms.specs.declared.axioms.Numbered.{Numbered}
use Rattle.row_cache.specs.Theory.{theory_of}
use Rattle.absorption.specs.declared.row.Row.{Row}
use Rattle.absorption.specs.Rows.{plain_rows, IsRowOfPart}
use Rattle.absorption.specs.Places.{FiledRows, all_filed, KeysDiffer, StandInPlaces}

-- the row is that of its part with the trigger that is fixed for the part
pub record HasFixedTrigger (theory : Theory) (table : List Shape) (r : Row) : Type 0 where
  pub part : Part
  pub is_there : part_at theory r.«axiom» r.part ≡ Some part
  pub is_row : IsRowOfPart table r.«axiom» r.part part r

-- each part of the axioms of these numbers has exactly one row in exactly one place, with its fixed trigger
pub record IsRowTable (axioms : List Numbered) (numbers : List ℕ) (table : List Shape) (f : FiledRows) : Type 0 where
  pub choice : IsChoice (theory_of axioms numbers) table (plain_rows (all_filed f))
  pub fixed : All (HasFixedTrigger (theory_of axioms numbers) table) (all_filed f)
  pub places : StandInPlaces table f
  pub keys : KeysDiffer f
