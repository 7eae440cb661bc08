-- The numbers that a refutation gives to concepts of a table: each by its place among those that are used.
use Rattle.std.specs.Prelude.{ℕ, ◌+◌, ◌==◌, Bool, List, map}
use Rattle.std.specs.List.{list_any, list_all, position_or_len}
use Rattle.calculus_specs.specs.Shape.{Shape, top, bottom, name, not_name, intersection, union, some_of, all_of}
use Rattle.calculus_specs.specs.Shape.{at_least, at_most}

-- whether the concept is among those that are used
abbrev pub is_used : List ℕ → ℕ → Bool
is_used used c = list_any (λ d. c == d) used

-- each of the concepts has got a number
abbrev pub are_used : List ℕ → List ℕ → Bool
are_used used cs = list_all (is_used used) cs

-- its number, from 1
abbrev pub number_in : List ℕ → ℕ → ℕ
number_in used c = position_or_len (λ d. c == d) used + 1

-- the shape with its parts numbered anew
abbrev pub renumbered_shape : (ℕ → ℕ) → Shape → Shape
renumbered_shape f top = top
renumbered_shape f bottom = bottom
renumbered_shape f (name a) = name a
renumbered_shape f (not_name a) = not_name a
renumbered_shape f (intersection cs) = intersection (map f cs)
renumbered_shape f (union cs) = union (map f cs)
renumbered_shape f (some_of r c) = some_of r (f c)
renumbered_shape f (all_of r c) = all_of r (f c)
renumbered_shape f (at_least n r c) = at_least n r (f c)
renumbered_shape f (at_most n r c) = at_most n r (f c)
