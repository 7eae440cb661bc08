-- The rows of the parts of axioms, as a refutation uses them, and by the numbers of a table.
use Rattle.std.specs.Prelude.{◌≡◌, ℕ, Bool, true, false, zero, suc, ◌+◌, ◌≤◌, List, [], ◌∷◌, map, length}
use Rattle.std.specs.Prelude.{slice_index_or, Option, Some, None, IsTrue, All, if◌then◌else◌}
use Rattle.std.specs.List.{list_all}
use Rattle.refutation_truth.specs.Concept.{Concept}
use Rattle.refutation_truth.specs.Numbered.{Numbered}
use Rattle.refutation_truth.specs.Shape.{Shape}
use Rattle.refutation_truth.specs.Shape.Shape.{name}
use Rattle.refutation_truth.specs.TheoryRows.{Part, inclusion, range, part_at, is_among, is_name, conjunct_at}
use Rattle.refutation_truth.specs.TheoryRows.{are_name_positions, row_concept}
use Rattle.refutation_truth.specs.Tree.{tree_of}
use Rattle.axiom_sets.specs.Sets.{Limited, member_list}
use Rattle.refutation_truth.specs.Theory.{theory_of}
use Rattle.refutation_truth.specs.Part.{Part as PartByNumber}
use Rattle.refutation_truth.specs.Parts.{StandsForPart, axiom_parts, axiom_has_counts_within}
use Rattle.refutation_truth.specs.Numbers.{IsNumber, AreNumbers, trees_at}
use Rattle.row_cache.specs.declared.cached_row.CachedRow.{CachedRow}
use Rattle.row_cache.specs.declared.cached_row.CachedRange.{CachedRange}

-- the cardinalities of each axiom are within the limit, and so are its parts
abbrev pub AreInLimit : List Numbered → Type 0
AreInLimit axioms =
    All (λ n. IsTrue (axiom_has_counts_within 100 n.axiom) × (length (axiom_parts n.axiom) ≤ 500000)) axioms

-- a row: an element that has each of the premises has the concept
pub record PlainRow : Type 0 where
  pub premises : List Concept
  pub concept : Concept

-- the row of an inclusion for the name conjuncts at some positions
abbrev pub row_for : Option Part → List ℕ → Option PlainRow
row_for None positions = None
row_for (Some (range r d)) positions = None
row_for (Some (inclusion cs d)) positions =
    if are_name_positions cs positions
    then Some (record { premises = map (conjunct_at cs) positions; concept = row_concept cs d positions }) else None

-- the numbers of the table stand for the row; where there is none, none is told
abbrev pub IsRow : List Shape → Option PlainRow → Option CachedRow → Type 0
IsRow table None None = Unit {0}
IsRow table (Some r) (Some k) = AreNumbers table k.premises r.premises × IsNumber table k.concept r.concept
IsRow table _ _ = ⊥

-- the same of a part of an axiom, by the numbers of the axiom and the part and by a set that names axioms
abbrev pub part_in_set : List Numbered → Limited → ℕ → ℕ → Option Part
part_in_set axioms named a p = part_at (theory_of axioms (member_list named)) a p

-- the row is that of a part of a named axiom at these positions, or there is none
abbrev pub IsRowIn : List Shape → List Numbered → Limited → ℕ → ℕ → List ℕ → Option CachedRow → Type 0
IsRowIn table axioms named a p positions row = IsRow table (row_for (part_in_set axioms named a p) positions) row

-- the role and the class of a range
pub record PlainRange : Type 0 where
  pub role : ℕ
  pub concept : Concept

-- the role and the class of a part that is a range
abbrev pub range_for : Option Part → Option PlainRange
range_for None = None
range_for (Some (range r d)) = Some (record { role = r; concept = d })
range_for (Some (inclusion cs d)) = None

-- the cached range has the same role, and the number of the same concept
abbrev pub IsRange : List Shape → Option PlainRange → Option CachedRange → Type 0
IsRange table None None = Unit {0}
IsRange table (Some r) (Some k) = (k.role ≡ r.role) × IsNumber table k.concept r.concept
IsRange table _ _ = ⊥

-- the range is that of a named axiom, or there is none
abbrev pub IsRangeIn : List Shape → List Numbered → Limited → ℕ → Option CachedRange → Type 0
IsRangeIn table axioms named a row = IsRange table (range_for (part_in_set axioms named a 1)) row

-- ---- parts and conjuncts by number

-- the numbers of the table stand for the part; where there is none, none is told
abbrev pub IsPartFound : List Shape → Option Part → Option PartByNumber → Type 0
IsPartFound table None None = Unit {0}
IsPartFound table (Some p) (Some k) = StandsForPart table k p
IsPartFound table _ _ = ⊥

-- the part is that of a named axiom, or there is none
abbrev pub IsPartIn : List Shape → List Numbered → Limited → ℕ → ℕ → Option PartByNumber → Type 0
IsPartIn table axioms named a p found = IsPartFound table (part_in_set axioms named a p) found

-- the row of an inclusion whose conjuncts and right side are numbers of the table, and the number of its concept in a
-- later one
abbrev pub row_at : List Shape → List ℕ → ℕ → List ℕ → Option PlainRow
row_at table conjuncts right positions =
    row_for (Some (inclusion (trees_at table conjuncts) (tree_of table right))) positions

-- the number stands for what remains of an inclusion at these positions
abbrev pub IsRowConcept : List Shape → List Shape → List ℕ → ℕ → List ℕ → ℕ → Type 0
IsRowConcept earlier later conjuncts right positions number =
    IsNumber later number (row_concept (trees_at earlier conjuncts) (tree_of earlier right) positions)

-- whether the conjuncts at these positions are names
abbrev pub is_name_at : List Shape → List ℕ → ℕ → Bool
is_name_at table conjuncts position = is_name (conjunct_at (trees_at table conjuncts) position)

-- the conjuncts at the positions are names
abbrev pub are_names_at : List Shape → List ℕ → List ℕ → Bool
are_names_at table conjuncts positions = list_all (is_name_at table conjuncts) positions

-- the shape is a name
abbrev pub is_name_shape : Shape → Bool
is_name_shape (name a) = true
is_name_shape _ = false

-- the number of the conjunct at a position, from 1; that of top where there is none
abbrev pub conjunct_number_at : List ℕ → ℕ → ℕ
conjunct_number_at conjuncts zero = 0
conjunct_number_at conjuncts (suc i) = slice_index_or conjuncts i 0

-- the numbers of the conjuncts whose positions, counted from `first`, are not in the list
abbrev pub other_numbers : ℕ → List ℕ → List ℕ → List ℕ
other_numbers first positions [] = []
other_numbers first positions (c ∷ cs) =
    if is_among positions first then other_numbers (first + 1) positions cs
    else c ∷ other_numbers (first + 1) positions cs
