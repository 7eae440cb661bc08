-- How the concepts of a refutation get their numbers in a table, one after another.
use Rattle.std.specs.Prelude.{◌≡◌, ℕ, ◌<◌, List, ◌+◌, ◌∷◌, map, length, slice_index}
use Rattle.calculus_specs.specs.Shape.{Shape}
use Rattle.calculus_specs.specs.Shape.Shape.{top, bottom, name, not_name, intersection, union, some_of, all_of}
use Rattle.calculus_specs.specs.Shape.Shape.{at_least, at_most}
use Rattle.calculus_specs.specs.Tree.{tree_over, trees_of, tree_of}
use Rattle.shq_nnf.specs.Numbers.{IsNumber}
use Rattle.shq_nnf.specs.Shapes.{form_of}
use Rattle.shq_nnf.specs.declared.shapes.Shape.{Shape as Shown}

-- the first concepts, of which top is number 0, have their numbers in the table
pub record AreFirst (shapes table : List Shape) (numbers : List ℕ) (count : ℕ) : Type 0 where
  pub as_many : length numbers ≡ count
  pub stand_for : (k : ℕ) → k < length numbers → IsNumber table (slice_index numbers k) (tree_of (top ∷ shapes) k)

-- and all of them
abbrev pub AreAllNumbered : List Shape → List Shape → List ℕ → Type 0
AreAllNumbered shapes table numbers = AreFirst shapes table numbers (length shapes + 1)

-- the shape with other numbers for its parts
abbrev pub renumbered : List ℕ → Shape → Shape
renumbered numbers top = top
renumbered numbers bottom = bottom
renumbered numbers (name a) = name a
renumbered numbers (not_name a) = not_name a
renumbered numbers (intersection cs) = intersection (map (slice_index numbers) cs)
renumbered numbers (union cs) = union (map (slice_index numbers) cs)
renumbered numbers (some_of r c) = some_of r (slice_index numbers c)
renumbered numbers (all_of r c) = all_of r (slice_index numbers c)
renumbered numbers (at_least n r c) = at_least n r (slice_index numbers c)
renumbered numbers (at_most n r c) = at_most n r (slice_index numbers c)

-- the number stands for its concept in the later table, and the numbers for its parts are of the earlier one
abbrev pub IsRenumbered : List Shape → List Shape → List ℕ → Shown → ℕ → Type 0
IsRenumbered earlier later numbers s n =
    IsNumber later n (tree_over (trees_of earlier) (renumbered numbers (form_of s)))
