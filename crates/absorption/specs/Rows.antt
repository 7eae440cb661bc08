-- The rows of a table, read as the plain rows of a search.
use Rattle.std.specs.Prelude.{◌≡◌, ℕ, ◌<◌, List, ◌++◌, map, length, Option, None, Some}
use Rattle.std.specs.List.{AllZip}
use Rattle.calculus_specs.specs.Shape.{Shape}
use Rattle.calculus_specs.specs.Shape.Shape.{some_of}
use Rattle.calculus_specs.specs.Tree.{tree_of}
use Rattle.calculus_specs.specs.Rows.{Part, inclusion, range, NumberedPart, Trigger as PlainTrigger, Row as PlainRow}
use Rattle.calculus_specs.specs.Rows.Trigger.{always, names, edge, end_of}
use Rattle.row_cache.specs.Part.{Part as PartByNumber}
use Rattle.row_cache.specs.Part.TheVariants.{Inclusion, Range}
use Rattle.row_cache.specs.Numbers.{AreNumbers, trees_at}
use Rattle.row_cache.specs.Parts.{StandsForPart}
use Rattle.row_cache.specs.Theory.{numbered_parts}
use Rattle.absorption.specs.Triggers.{trigger_for, premises_for, fixed_concept}
use Rattle.absorption.specs.declared.row.Row.{Row}
use Rattle.absorption.specs.declared.row.Trigger.{Trigger}
use Rattle.absorption.specs.declared.row.Trigger.TheVariants.{Always, Names, Edge, End}

-- ---- the reading

-- a trigger of the code, as the definitions see it
abbrev pub plain_trigger : Trigger → PlainTrigger
plain_trigger Always = always
plain_trigger (Names positions) = names positions
plain_trigger (Edge role) = edge role
plain_trigger (End role) = end_of role

-- a row of the code, as the definitions see it
abbrev pub plain_row : Row → PlainRow
plain_row r =
    record { axiom_number = r.«axiom»; part_number = r.part; trigger = plain_trigger r.trigger; concept = r.concept }

-- the rows of the code, as the definitions see them
abbrev pub plain_rows : List Row → List PlainRow
plain_rows rows = map plain_row rows

-- ---- parts by number

-- a part by numbers of a table, with their trees
abbrev pub plain_part : List Shape → PartByNumber → Part
plain_part table (Inclusion conjuncts right) = inclusion (trees_at table conjuncts) (tree_of table right)
plain_part table (Range role concept) = range role (tree_of table concept)

-- the numbers of the part are in the table
abbrev pub IsListedPart : List Shape → PartByNumber → Type 0
IsListedPart table found = StandsForPart table found (plain_part table found)

-- the role of a shape 'some'
abbrev pub role_of_shape : Shape → Option ℕ
role_of_shape (some_of r c) = Some r
role_of_shape _ = None

-- ---- rows of parts

-- the row is that of the part with these numbers, with the trigger that is fixed for it
pub record IsRowOfPart (table : List Shape) (a p : ℕ) (q : Part) (r : Row) : Type 0 where
  pub axiom_is : r.«axiom» ≡ a
  pub part_is : r.part ≡ p
  pub trigger_is : plain_trigger r.trigger ≡ trigger_for q
  pub listed : r.concept < length table
  pub concept_is : fixed_concept q ≡ Some (tree_of table r.concept)
  pub premises_are : AreNumbers table r.premises (premises_for q (trigger_for q))

-- the row is one of this part
abbrev pub IsRowOf : List Shape → NumberedPart → Row → Type 0
IsRowOf table n r = IsRowOfPart table n.axiom_number n.part_number n.part r

-- the rows of these parts, one for each, in order
abbrev pub AreRowsOf : List Shape → List NumberedPart → List Row → Type 0
AreRowsOf table ns rows = AllZip (IsRowOf table) ns rows

-- the rows of the axiom's parts are put last
pub record AddsRows (earlier later : List Shape) (a : ℕ) (qs : List Part) (old new : List Row) : Type 0 where
  pub added : (ns : List NumberedPart) → AreRowsOf earlier ns old → AreRowsOf later (ns ++ numbered_parts a 1 qs) new
