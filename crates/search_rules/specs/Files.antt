-- The rows of the rules, as they are looked up in a search.
use Rattle.std.specs.Prelude.{ℕ, Bool, true, false, List, [], ◌∷◌, map, if◌then◌else◌}
use Rattle.std.specs.List.{flat_map}
use Rattle.std.specs.Map.{keys_of}
use Rattle.calculus_specs.specs.Shape.{Shape, shape_of}
use Rattle.calculus_specs.specs.Shape.Shape.{name}
use Rattle.absorption.specs.declared.row.Row.{Row}
use Rattle.absorption.specs.declared.row.Trigger.{Trigger}
use Rattle.absorption.specs.declared.row.Trigger.TheVariants.{Names, Edge, End}
use Rattle.absorption.specs.Places.{RowsByNumber, rows_under}
use Rattle.step_finders.specs.declared.state.PlainRow.{PlainRow}
use Rattle.step_finders.specs.declared.state.NamedRow.{NamedRow}
use Rattle.step_finders.specs.Found.{Files}
use Rattle.search_rules.specs.declared.edge_tables.Side.{Side}
use Rattle.search_rules.specs.declared.edge_tables.Side.TheVariants.{Begin, End as Finish}
use Rattle.search_rules.specs.RuleLists.{RuleLists, theory_in}

-- a row without that for which it waits
abbrev pub plain_of : Row → PlainRow
plain_of r = record { «axiom» = r.«axiom»; part = r.part; gives = r.concept }

-- the positions of the names that a trigger waits for
abbrev pub positions_of : Trigger → List ℕ
positions_of (Names positions) = positions
positions_of _ = []

-- a row beside the names for which it waits
abbrev pub named_of : Row → NamedRow
named_of r = record {
  «axiom» = r.«axiom»;
  part = r.part;
  positions = positions_of r.trigger;
  waits = r.premises;
  gives = r.concept;
}

-- ---- rows of names

-- the rows that stand at the class of a concept with this shape
abbrev pub rows_at_shape : RowsByNumber → Shape → List NamedRow
rows_at_shape lists (name class) = map named_of (rows_under lists class)
rows_at_shape lists _ = []

-- ---- rows of edges

-- whether a trigger waits for this end of an edge
abbrev pub waits_for : Side → Trigger → Bool
waits_for Begin (Edge role) = true
waits_for Finish (End role) = true
waits_for _ _ = false

-- the row as a list of one, where the condition holds
abbrev pub row_if : Bool → Row → List PlainRow
row_if true r = plain_of r ∷ []
row_if false r = []

-- those of the rows whose trigger passes, without it
abbrev pub passing_rows : (Trigger → Bool) → List Row → List PlainRow
passing_rows p rows = flat_map (λ r. row_if (p r.trigger) r) rows

-- those that stand at a role, if it is above the role r
abbrev pub rows_above : (ℕ → ℕ → Bool) → (Trigger → Bool) → RowsByNumber → ℕ → ℕ → List PlainRow
rows_above below p lists r s = if below r s then passing_rows p (rows_under lists s) else []

-- those that stand at one of the roles, if that is above the role r
abbrev pub rows_among : (ℕ → ℕ → Bool) → (Trigger → Bool) → RowsByNumber → List ℕ → ℕ → List PlainRow
rows_among below p lists roles r = flat_map (rows_above below p lists r) roles

-- those that stand at any role above the role r
abbrev pub edge_rows : (ℕ → ℕ → Bool) → (Trigger → Bool) → RowsByNumber → ℕ → List PlainRow
edge_rows below p lists r = rows_among below p lists (keys_of lists) r

-- ---- all of them

-- the rows of the rules, by what they wait for
abbrev pub files_in : RuleLists → Files
files_in r = record {
  general = map plain_of r.filed.general;
  named = λ c. rows_at_shape r.filed.at_names (shape_of r.table c);
  begins = λ s. edge_rows (theory_in r).below (waits_for Begin) r.filed.at_roles s;
  ends = λ s. edge_rows (theory_in r).below (waits_for Finish) r.filed.at_roles s;
}
