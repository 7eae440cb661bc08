-- The parts of axioms, over concepts in normal form, and the rows by which a search uses them.
use Rattle.std.specs.Prelude.{◌≡◌, ℕ, zero, suc, ◌+◌, ◌<◌, ◌==◌, nat_lt, ◌&&◌, Bool, true, false, List, [], ◌∷◌, ◌++◌}
use Rattle.std.specs.Prelude.{map, length, Option, None, Some, slice_index_or, if◌then◌else◌, All, count_by}
use Rattle.std.specs.List.{list_any, list_all, find}
use Rattle.std.specs.Option.{option_map}
use Rattle.shq_base.specs.Concept.{Concept, top, name, intersection, some_of, part_list}
use Rattle.calculus_specs.specs.Normal.{normal_form, negated_form, or_of}
use Rattle.calculus_specs.specs.Shape.{Shape}
use Rattle.calculus_specs.specs.Tree.{tree_of}

-- what an axiom says of one element: what is in all conjuncts is in the right side; or what is at the end of an edge
-- of a role is in the class
pub data Part : Type 0 where
  inclusion : List Concept → Concept → Part
  range : ℕ → Concept → Part

-- a part of a numbered axiom, with its number in the axiom, from 1
pub record NumberedPart : Type 0 where
  pub axiom_number : ℕ
  pub part_number : ℕ
  pub part : Part

-- what a set of axioms gives to refutations and to searches: its parts, and its role axioms as two tests
pub record Theory : Type 0 where
  pub parts : List NumberedPart
  pub below : ℕ → ℕ → Bool
  pub is_transitive : ℕ → Bool

-- the part has these numbers: that of its axiom, and its own
abbrev pub is_numbered : ℕ → ℕ → NumberedPart → Bool
is_numbered a p n = n.axiom_number == a && n.part_number == p

-- the part of an axiom that has a number
abbrev pub part_at : Theory → ℕ → ℕ → Option Part
part_at theory a p = option_map (λ n. n.part) (find (is_numbered a p) theory.parts)

-- ---- the concept of a row

-- the position is one of these
abbrev pub is_among : List ℕ → ℕ → Bool
is_among positions i = list_any (λ k. k == i) positions

-- the conjuncts whose positions, counted from `first`, are not in the list
abbrev pub others_from : ℕ → List ℕ → List Concept → List Concept
others_from first positions [] = []
others_from first positions (c ∷ cs) =
    if is_among positions first then others_from (first + 1) positions cs else c ∷ others_from (first + 1) positions cs

-- what an element is in that is in the conjuncts at these positions: the complement of another conjunct, or the right
-- side
abbrev pub row_concept : List Concept → Concept → List ℕ → Concept
row_concept conjuncts right positions = or_of (map negated_form (others_from 1 positions conjuncts) ++ right ∷ [])

-- ---- the rows of a part

-- the conjunct at a position, from 1; top where there is none
abbrev pub conjunct_at : List Concept → ℕ → Concept
conjunct_at conjuncts zero = top
conjunct_at conjuncts (suc i) = slice_index_or conjuncts i top

-- the concept is a name
abbrev pub is_name : Concept → Bool
is_name (name a) = true
is_name _ = false

-- each number is less than the next one
abbrev pub is_ascending : List ℕ → Bool
is_ascending [] = true
is_ascending (i ∷ []) = true
is_ascending (i ∷ k ∷ ks) = nat_lt i k && is_ascending (k ∷ ks)

-- whether these are positions of conjuncts that are names, strictly ascending
abbrev pub are_name_positions : List Concept → List ℕ → Bool
are_name_positions conjuncts positions =
    is_ascending positions && list_all (λ i. is_name (conjunct_at conjuncts i)) positions

-- the concept is 'some' over this role
abbrev pub is_some_of : ℕ → Concept → Bool
is_some_of s (some_of r c) = r == s
is_some_of s _ = false

-- where a row is used: at each node, at a node in the conjuncts at these positions, at a node where an edge below a
-- role begins, or at a node where one ends
pub data Trigger : Type 0 where
  always : Trigger
  names : List ℕ → Trigger
  edge : ℕ → Trigger
  end_of : ℕ → Trigger

-- the concept of the part's row with this trigger; none where the part has no such row
abbrev pub row_of : Part → Trigger → Option Concept
row_of (inclusion cs d) always = Some (row_concept cs d [])
row_of (inclusion cs d) (names positions) =
    if are_name_positions cs positions then Some (row_concept cs d positions) else None
row_of (inclusion cs d) (edge s) = if list_any (is_some_of s) cs then Some (row_concept cs d []) else None
row_of (inclusion cs d) (end_of s) = None
row_of (range r d) (end_of s) = if s == r then Some d else None
row_of (range r d) _ = None

-- the row that a search has chosen for a part, whose concept is a number of a table
pub record Row : Type 0 where
  pub axiom_number : ℕ
  pub part_number : ℕ
  pub trigger : Trigger
  pub concept : ℕ

-- the row has the numbers of this part
abbrev pub is_row_of : Row → NumberedPart → Bool
is_row_of row n = is_numbered row.axiom_number row.part_number n

-- the row is one of its part's, and its number stands for the row's concept
pub record IsRowOf (theory : Theory) (table : List Shape) (row : Row) : Type 0 where
  pub part : Part
  pub is_there : part_at theory row.axiom_number row.part_number ≡ Some part
  pub listed : row.concept < length table
  pub is_right : row_of part row.trigger ≡ Some (tree_of table row.concept)

-- the rows are a choice of one row for each part
pub record IsChoice (theory : Theory) (table : List Shape) (rows : List Row) : Type 0 where
  pub rows_fit : All (IsRowOf theory table) rows
  pub each_once : All (λ n. count_by (λ row. is_row_of row n) rows ≡ 1) theory.parts

-- ---- the parts that class axioms are made of

-- the conjuncts of a concept in normal form
abbrev pub conjuncts_in : Concept → List Concept
conjuncts_in top = []
conjuncts_in (intersection cs) = part_list cs
conjuncts_in c = c ∷ []

-- what is in c is in d
abbrev pub inclusion_of : Concept → Concept → Part
inclusion_of c d = inclusion (conjuncts_in (normal_form c)) (normal_form d)

-- what is at the end of an edge of r is in c
abbrev pub range_of : ℕ → Concept → Part
range_of r c = range r (normal_form c)
