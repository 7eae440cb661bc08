-- The trees that the numbers of a table stand for.
use Rattle.std.specs.Prelude.{◌≡◌, ℕ, ◌<◌, List, [], ◌∷◌, ◌++◌, map, length, slice_index_or}
use Rattle.shq_base.specs.Concept.{Concept, top, bottom, name, complement, intersection, union, some_of, all_of}
use Rattle.shq_base.specs.Concept.{at_least, at_most, parts_of}
use Rattle.calculus_specs.specs.Normal.{negated_form}
use Rattle.calculus_specs.specs.Shape.{Shape}
use Rattle.calculus_specs.specs.Shape.Shape.{top as top_shape, bottom as bottom_shape, name as name_shape, not_name}
use Rattle.calculus_specs.specs.Shape.Shape.{intersection as intersection_shape, union as union_shape}
use Rattle.calculus_specs.specs.Shape.Shape.{some_of as some_shape, all_of as all_shape, at_least as least_shape}
use Rattle.calculus_specs.specs.Shape.Shape.{at_most as most_shape}

-- the tree of a shape, where the numbers below it have these trees; any other number reads as top
abbrev pub tree_over : List Concept → Shape → Concept
tree_over trees top_shape = top
tree_over trees bottom_shape = bottom
tree_over trees (name_shape a) = name a
tree_over trees (not_name a) = complement (name a)
tree_over trees (intersection_shape cs) = intersection (parts_of (map (λ c. slice_index_or trees c top) cs))
tree_over trees (union_shape cs) = union (parts_of (map (λ c. slice_index_or trees c top) cs))
tree_over trees (some_shape r c) = some_of r (slice_index_or trees c top)
tree_over trees (all_shape r c) = all_of r (slice_index_or trees c top)
tree_over trees (least_shape n r c) = at_least n r (slice_index_or trees c top)
tree_over trees (most_shape n r c) = at_most n r (slice_index_or trees c top)

-- the trees of a table's numbers in order, after those that are known
abbrev pub trees_after : List Concept → List Shape → List Concept
trees_after trees [] = trees
trees_after trees (s ∷ ss) = trees_after (trees ++ tree_over trees s ∷ []) ss

-- the trees of all shapes of a table, in order
abbrev pub trees_of : List Shape → List Concept
trees_of table = trees_after [] table

-- the tree of a number; one that the table does not have reads as top
abbrev pub tree_of : List Shape → ℕ → Concept
tree_of table c = slice_index_or (trees_of table) c top

-- d is a number of the table that stands for the complement of what c stands for
pub record IsComplement (table : List Shape) (c d : ℕ) : Type 0 where
  pub listed : d < length table
  pub negates : tree_of table d ≡ negated_form (tree_of table c)
