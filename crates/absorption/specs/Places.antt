-- Where the rows of a table stand.
use Rattle.std.specs.Prelude.{◌≡◌, ℕ, ◌<◌, ◌==◌, nat_eq, nat_lt, ◌&&◌, ◌⊎◌, Bool, true, List, [], ◌∷◌, ◌++◌, length}
use Rattle.std.specs.Prelude.{All, flat_map, unwrap_or, if◌then◌else◌}
use Rattle.std.specs.List.{list_any, list_all, IsDistinct}
use Rattle.std.specs.List.Sorted.{IsPermutation}
use Rattle.std.specs.Map.{lookup, keys_of}
use Rattle.calculus_specs.specs.Shape.{Shape, shape_of}
use Rattle.tableau_specs.specs.Steps.{is_named}
use Rattle.row_cache.specs.Rows.{is_name_shape}
use Rattle.absorption.specs.declared.row.Row.{Row}
use Rattle.absorption.specs.declared.row.Trigger.{Trigger}
use Rattle.absorption.specs.declared.row.Trigger.TheVariants.{Always, Names, Edge, End}
use Rattle.absorption.specs.declared.place.Place.{Place}
use Rattle.absorption.specs.declared.place.Place.TheVariants.{Name, Role, General}

-- lists of rows, each under the number of a class or a role
abbrev pub RowsByNumber : Type 0
RowsByNumber = List (ℕ × List Row)

-- the rows that stand at class names, those that stand at roles, and those that stand at neither
pub record FiledRows : Type 0 where
  pub at_names : RowsByNumber
  pub at_roles : RowsByNumber
  pub general : List Row

-- the rows under a number
abbrev pub rows_under : RowsByNumber → ℕ → List Row
rows_under lists k = unwrap_or (lookup (nat_eq k) lists) []

-- the rows of some lists by numbers
abbrev pub rows_in : RowsByNumber → List Row
rows_in lists = flat_map (λ e. e.1) lists

-- all rows of the table
abbrev pub all_filed : FiledRows → List Row
all_filed f = rows_in f.at_names ++ rows_in f.at_roles ++ f.general

-- ---- where a row may stand

-- whether one of the numbers stands for the class
abbrev pub names_class : List Shape → List ℕ → ℕ → Bool
names_class table numbers class = list_any (λ c. is_named class (shape_of table c)) numbers

-- the row waits for names, and the class is one of them
pub record WaitsForName (table : List Shape) (class : ℕ) (r : Row) : Type 0 where
  pub positions : List ℕ
  pub waits : r.trigger ≡ Names positions
  pub is_among : names_class table r.premises class ≡ true

-- the row waits for an edge of the role to begin or to end
abbrev pub WaitsForEdge : ℕ → Row → Type 0
WaitsForEdge role r = (r.trigger ≡ Edge role) ⊎ (r.trigger ≡ End role)

-- the row may be used at each node
abbrev pub WaitsForNothing : Row → Type 0
WaitsForNothing r = r.trigger ≡ Always

-- the row waits for what the place stands for: a name, an edge of a role, or nothing
abbrev pub IsPlaceOf : List Shape → Row → Place → Type 0
IsPlaceOf table r (Name class) = WaitsForName table class r
IsPlaceOf table r (Role role) = WaitsForEdge role r
IsPlaceOf table r General = WaitsForNothing r

-- each class and each role has one list
pub record KeysDiffer (f : FiledRows) : Type 0 where
  pub classes : IsDistinct nat_eq (keys_of f.at_names)
  pub roles : IsDistinct nat_eq (keys_of f.at_roles)

-- each row stands at what it waits for
pub record StandInPlaces (table : List Shape) (f : FiledRows) : Type 0 where
  pub at_names : All (λ e. All (WaitsForName table e.0) e.1) f.at_names
  pub at_roles : All (λ e. All (WaitsForEdge e.0) e.1) f.at_roles
  pub in_general : All WaitsForNothing f.general

-- ---- how rows come to their places

-- each number is one of the table, and stands for a name
abbrev pub are_names : List Shape → List ℕ → Bool
are_names table numbers = list_all (λ c. nat_lt c (length table) && is_name_shape (shape_of table c)) numbers

-- a trigger by names has such a name to wait for; any other trigger is free
abbrev pub MayStandAt : Trigger → List Shape → List ℕ → Type 0
MayStandAt (Names positions) table premises = (0 < length premises) × (are_names table premises ≡ true)
MayStandAt _ table premises = Unit {0}

-- a row that waits for names has some
pub record HasPlace (table : List Shape) (r : Row) : Type 0 where
  pub may : MayStandAt r.trigger table r.premises

-- the row is put last under the number
abbrev pub with_row : RowsByNumber → ℕ → Row → RowsByNumber
with_row [] k r = (k, r ∷ []) ∷ []
with_row (e ∷ es) k r = if k == e.0 then (e.0, e.1 ++ r ∷ []) ∷ es else e ∷ with_row es k r

-- the filed rows with one more at a place
abbrev pub with_filed : FiledRows → Place → Row → FiledRows
with_filed f (Name class) r = record f { at_names = with_row f.at_names class r }
with_filed f (Role role) r = record f { at_roles = with_row f.at_roles role r }
with_filed f General r = record f { general = f.general ++ r ∷ [] }

-- the table has these rows and no others, each once and where it may stand
pub record IsFiled (table : List Shape) (rows : List Row) (f : FiledRows) : Type 0 where
  pub all : IsPermutation rows (all_filed f)
  pub places : StandInPlaces table f
  pub keys : KeysDiffer f
