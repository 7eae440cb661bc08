-- Shapes that are numbered from 1. Number 0 stands for top, and no shape has it as a part.
use Rattle.std.specs.Prelude.{◌==◌, not, false, ◌≡◌, ℕ, ◌+◌, ◌<◌, ◌≤◌, nat_lt, ◌&&◌, Bool, true, List, [], ◌∷◌, length}
use Rattle.std.specs.Prelude.{take, slice_index_or}
use Rattle.std.specs.List.{list_all, list_any}
use Rattle.std.specs.Str.{bytes_eq}
use Rattle.shq_nnf.specs.Shape.{Shape, shape_of, has_parts_below, is_normal}
use Rattle.shq_nnf.specs.Shape.Shape.{top, bottom, name, not_name, intersection, union, some_of, all_of}
use Rattle.shq_nnf.specs.Shape.Shape.{at_least, at_most}

-- the shape of a number from 1
abbrev pub shape_at : List Shape → ℕ → Shape
shape_at shapes c = shape_of (top ∷ shapes) c

-- whether the number is that of a shape
abbrev pub is_concept : List Shape → ℕ → Bool
is_concept shapes c = nat_lt 0 c && nat_lt c (length shapes + 1)

-- the numbers of the parts of a shape
abbrev pub part_numbers : Shape → List ℕ
part_numbers top = []
part_numbers bottom = []
part_numbers (name a) = []
part_numbers (not_name a) = []
part_numbers (intersection cs) = cs
part_numbers (union cs) = cs
part_numbers (some_of r c) = c ∷ []
part_numbers (all_of r c) = c ∷ []
part_numbers (at_least n r c) = c ∷ []
part_numbers (at_most n r c) = c ∷ []

-- whether the shape is that of a normal form whose parts are among these shapes
abbrev pub fits : List Shape → Shape → Bool
fits shapes s = list_all (is_concept shapes) (part_numbers s) && is_normal (top ∷ shapes) s

-- whether two shapes are the same
abbrev pub same_shape : Shape → Shape → Bool
same_shape top top = true
same_shape bottom bottom = true
same_shape (name a) (name b) = a == b
same_shape (not_name a) (not_name b) = a == b
same_shape (intersection cs) (intersection ds) = bytes_eq cs ds
same_shape (union cs) (union ds) = bytes_eq cs ds
same_shape (some_of r c) (some_of s d) = r == s && c == d
same_shape (all_of r c) (all_of s d) = r == s && c == d
same_shape (at_least n r c) (at_least m s d) = n == m && (r == s && c == d)
same_shape (at_most n r c) (at_most m s d) = n == m && (r == s && c == d)
same_shape _ _ = false

-- the shape is one of these
abbrev pub is_among_shapes : List Shape → Shape → Bool
is_among_shapes shapes s = list_any (same_shape s) shapes

-- whether the shape may be put after these: it has its parts among them, is normal, and is none of them
abbrev pub admits : List Shape → Shape → Bool
admits shapes s = fits shapes s && not (is_among_shapes shapes s)

-- each shape has its parts among the shapes before it and is normal, and none stands twice
pub record AreShapes (shapes : List Shape) : Type 0 where
  pub fit : (n : ℕ) → n < length shapes → fits (take n shapes) (slice_index_or shapes n top) ≡ true
  pub are_distinct : (n m : ℕ) → n < length shapes → m < length shapes
      → slice_index_or shapes n top ≡ slice_index_or shapes m top → n ≡ m

-- after top each shape is normal, and its parts stand below it
abbrev pub ShapesAreNormal : Type 0
ShapesAreNormal = (shapes : List Shape) → AreShapes shapes → (c : ℕ) → 1 ≤ c → c ≤ length shapes
    → (has_parts_below c (shape_at shapes c) ≡ true) × (is_normal (top ∷ shapes) (shape_at shapes c) ≡ true)
