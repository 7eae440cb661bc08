-- The members of an intersection or a union of numbers, as numbers.
use Rattle.std.specs.Prelude.{ℕ, Bool, true, false, List, [], ◌∷◌, if◌then◌else◌}
use Rattle.std.specs.List.{flat_map, list_any}
use Rattle.shq_meaning.specs.Concept.{Concept, top as top_concept, bottom as bottom_concept}
use Rattle.calculus_specs.specs.Normal.{is_top, is_bottom, intersected, united}
use Rattle.calculus_specs.specs.Shape.{Shape, shape_of, top, bottom, intersection, union}

-- the shape is top
abbrev pub is_top_shape : Shape → Bool
is_top_shape top = true
is_top_shape _ = false

-- the shape is bottom
abbrev pub is_bottom_shape : Shape → Bool
is_bottom_shape bottom = true
is_bottom_shape _ = false

-- what a number with this shape gives to an intersection
abbrev pub conjunct_numbers_of : ℕ → Shape → List ℕ
conjunct_numbers_of c top = []
conjunct_numbers_of c (intersection cs) = cs
conjunct_numbers_of c _ = c ∷ []

-- and to a union
abbrev pub disjunct_numbers_of : ℕ → Shape → List ℕ
disjunct_numbers_of c bottom = []
disjunct_numbers_of c (union cs) = cs
disjunct_numbers_of c _ = c ∷ []

-- the same of a number of a table, and of several
abbrev pub conjunct_numbers_at : List Shape → ℕ → List ℕ
conjunct_numbers_at table c = conjunct_numbers_of c (shape_of table c)

-- the numbers into which a number is opened as a part of a union
abbrev pub disjunct_numbers_at : List Shape → ℕ → List ℕ
disjunct_numbers_at table c = disjunct_numbers_of c (shape_of table c)

-- the numbers into which some numbers are opened as parts of an intersection
abbrev pub conjunct_numbers : List Shape → List ℕ → List ℕ
conjunct_numbers table cs = flat_map (conjunct_numbers_at table) cs

-- the numbers into which some numbers are opened as parts of a union
abbrev pub disjunct_numbers : List Shape → List ℕ → List ℕ
disjunct_numbers table cs = flat_map (disjunct_numbers_at table) cs

-- a member that may be left once inner intersections are opened and tops left out
abbrev pub is_open_conjunct : Shape → Bool
is_open_conjunct top = false
is_open_conjunct (intersection cs) = false
is_open_conjunct _ = true

-- the shape may be a part of a union: it is neither bottom nor a union itself
abbrev pub is_open_disjunct : Shape → Bool
is_open_disjunct bottom = false
is_open_disjunct (union cs) = false
is_open_disjunct _ = true

-- the intersection of such members
abbrev pub open_intersection : List Concept → Concept
open_intersection cs = if list_any is_bottom cs then bottom_concept else intersected cs

-- the union of parts that are opened already: top where top is one of them
abbrev pub open_union : List Concept → Concept
open_union cs = if list_any is_top cs then top_concept else united cs
