-- Worked examples. Names are numbers from 10, roles from 0.
use Rattle.std.specs.Prelude.{◌≡◌, [], ◌∷◌, None, Some, zero, suc, ◌<◌, true, false, refl, ℕ, List}
use Rattle.std.proofs.Common.{lit<, arith}
use Rattle.shq_base.specs.Concept.{Concept, top, bottom, name, complement, intersection, union, some_of, all_of}
use Rattle.shq_base.specs.Concept.{at_least, at_most, exactly, parts_of}
use Rattle.calculus_specs.specs.Normal.{normal_form, negated_form}
use Rattle.calculus_specs.specs.Shape.{Shape, shape_of, has_parts_below, is_normal, IsTable}
use Rattle.calculus_specs.specs.Shape.Shape.{top as top_shape, bottom as bottom_shape, name as name_shape, not_name}
use Rattle.calculus_specs.specs.Shape.Shape.{intersection as and_shape, union as union_shape, some_of as some_shape}
use Rattle.calculus_specs.specs.Shape.Shape.{at_least as least_shape, at_most as most_shape}
use Rattle.calculus_specs.specs.Tree.{tree_of}
use Rattle.calculus_specs.specs.Rows.{Part, inclusion_of, row_of}
use Rattle.calculus_specs.specs.Rows.Part.{inclusion}
use Rattle.calculus_specs.specs.Rows.Trigger.{always, names, edge, end_of}

abbrev a : Concept
a = name 10

abbrev b : Concept
b = name 11

abbrev c : Concept
c = name 12

-- inner intersections are opened and top is dropped; a part that is bottom makes the whole bottom
pub opened : normal_form (intersection (parts_of (a ∷ top ∷ intersection (parts_of (b ∷ c ∷ [])) ∷ [])))
    ≡ intersection (parts_of (a ∷ b ∷ c ∷ []))
opened = refl

pub one_left : normal_form (intersection (parts_of (a ∷ top ∷ []))) ≡ a
one_left = refl

pub empty : normal_form (intersection (parts_of (a ∷ complement top ∷ []))) ≡ bottom
empty = refl

-- a complement goes inward
pub inward : normal_form (complement (union (parts_of (a ∷ some_of 0 b ∷ []))))
    ≡ intersection (parts_of (complement a ∷ all_of 0 (complement b) ∷ []))
inward = refl

-- cardinalities
pub least_one : normal_form (at_least 1 0 a) ≡ some_of 0 a
least_one = refl

pub most_none : normal_form (at_most 0 0 a) ≡ all_of 0 (complement a)
most_none = refl

pub not_least_two : negated_form (at_least 2 0 a) ≡ at_most 1 0 a
not_least_two = refl

pub not_most_two : negated_form (at_most 2 0 a) ≡ at_least 3 0 a
not_most_two = refl

pub exactly_two : normal_form (exactly 2 0 a) ≡ intersection (parts_of (at_least 2 0 a ∷ at_most 2 0 a ∷ []))
exactly_two = refl

pub not_exactly_one : negated_form (exactly 1 0 a) ≡ union (parts_of (all_of 0 (complement a) ∷ at_least 2 0 a ∷ []))
not_exactly_one = refl

-- the numbers 0 to 4 of a table
pub tree_of_four : tree_of (top_shape ∷ name_shape 10 ∷ not_name 11 ∷ union_shape (1 ∷ 2 ∷ []) ∷ some_shape 0 3 ∷ []) 4
    ≡ some_of 0 (union (parts_of (a ∷ complement b ∷ [])))
tree_of_four = refl

-- the rows of the part 'a and some 0 b in c'
abbrev part : Part
part = inclusion_of (intersection (parts_of (a ∷ some_of 0 b ∷ []))) c

pub two_conjuncts : part ≡ inclusion (a ∷ some_of 0 b ∷ []) c
two_conjuncts = refl

pub always_row : row_of part always ≡ Some (union (parts_of (complement a ∷ all_of 0 (complement b) ∷ c ∷ [])))
always_row = refl

pub names_row : row_of part (names (1 ∷ [])) ≡ Some (union (parts_of (all_of 0 (complement b) ∷ c ∷ [])))
names_row = refl

pub edge_row : row_of part (edge 0) ≡ Some (union (parts_of (complement a ∷ all_of 0 (complement b) ∷ c ∷ [])))
edge_row = refl

-- the second conjunct is no name, none begins with role 1, and the part is no range
pub no_names_row : row_of part (names (1 ∷ 2 ∷ [])) ≡ None
no_names_row = refl

pub no_edge_row : row_of part (edge 1) ≡ None
no_edge_row = refl

pub no_range_row : row_of part (end_of 0) ≡ None
no_range_row = refl

-- ---- shapes in normal form, over a table with the numbers 0 top, 1 and 2 names, 3 their intersection, 4 bottom
abbrev five : List Shape
five = top_shape ∷ name_shape 10 ∷ name_shape 11 ∷ and_shape (1 ∷ 2 ∷ []) ∷ bottom_shape ∷ []

pub two_names : is_normal five (and_shape (1 ∷ 2 ∷ [])) ≡ true
two_names = refl

pub intersection_in_a_union : is_normal five (union_shape (1 ∷ 3 ∷ [])) ≡ true
intersection_in_a_union = refl

pub intersection_in_an_intersection : is_normal five (and_shape (1 ∷ 3 ∷ [])) ≡ false
intersection_in_an_intersection = refl

pub one_part : is_normal five (and_shape (1 ∷ [])) ≡ false
one_part = refl

pub top_as_a_part : is_normal five (union_shape (1 ∷ 0 ∷ [])) ≡ false
top_as_a_part = refl

pub bottom_as_a_part : is_normal five (and_shape (1 ∷ 4 ∷ [])) ≡ false
bottom_as_a_part = refl

pub least_of_two : is_normal five (least_shape 2 0 1) ≡ true
least_of_two = refl

pub least_of_one : is_normal five (least_shape 1 0 1) ≡ false
least_of_one = refl

pub most_of_none : is_normal five (most_shape 0 0 1) ≡ false
most_of_none = refl

pub part_above : has_parts_below 2 (and_shape (1 ∷ 2 ∷ [])) ≡ false
part_above = refl

-- a table
abbrev three : List Shape
three = top_shape ∷ name_shape 10 ∷ some_shape 0 1 ∷ []

three_below : (c : ℕ) → c < 3 → has_parts_below c (shape_of three c) ≡ true
three_below zero lt = refl
three_below (suc zero) lt = refl
three_below (suc (suc zero)) lt = refl
three_below (suc (suc (suc c))) lt = absurd (omega arith)

three_normal : (c : ℕ) → c < 3 → is_normal three (shape_of three c) ≡ true
three_normal zero lt = refl
three_normal (suc zero) lt = refl
three_normal (suc (suc zero)) lt = refl
three_normal (suc (suc (suc c))) lt = absurd (omega arith)

three_distinct : (c d : ℕ) → c < 3 → d < 3 → shape_of three c ≡ shape_of three d → c ≡ d
three_distinct zero zero lt mt e = refl
three_distinct zero (suc zero) lt mt e = cc
three_distinct zero (suc (suc zero)) lt mt e = cc
three_distinct (suc zero) zero lt mt e = cc
three_distinct (suc zero) (suc zero) lt mt e = refl
three_distinct (suc zero) (suc (suc zero)) lt mt e = cc
three_distinct (suc (suc zero)) zero lt mt e = cc
three_distinct (suc (suc zero)) (suc zero) lt mt e = cc
three_distinct (suc (suc zero)) (suc (suc zero)) lt mt e = refl
three_distinct (suc (suc (suc c))) d lt mt e = absurd (omega arith)
three_distinct c (suc (suc (suc d))) lt mt e = absurd (omega arith)

pub three_is_table : IsTable three
three_is_table = record {
  has_top = lit< tt;
  begins_with_top = refl;
  parts_below = three_below;
  are_normal = three_normal;
  are_distinct = three_distinct;
}
