-- Laws of the definitions.
use Rattle.std.specs.Prelude.{◌≡◌, ℕ, ◌<◌, ◌≤◌, ◌↔◌, true, List, ◌∷◌, ◌++◌, length}
use Rattle.shq_base.specs.Concept.{Concept}
use Rattle.calculus_specs.specs.Normal.{normal_form, negated_form}
use Rattle.calculus_specs.specs.Depth.{role_depth}
use Rattle.calculus_specs.specs.Same.{is_same}
use Rattle.calculus_specs.specs.Shape.{Shape, shape_of, has_parts_below, IsTable}
use Rattle.calculus_specs.specs.Tree.{tree_over, trees_of, tree_of}

-- the test says that two trees are equal exactly where they are
abbrev pub TestIsEquality : Type 0
TestIsEquality = (c d : Concept) → (is_same c d ≡ true) ↔ (c ≡ d)

-- the normal forms of a concept and of its complement are not deeper than the concept
abbrev pub NormalFormsAreNotDeeper : Type 0
NormalFormsAreNotDeeper = (c : Concept)
    → (role_depth (normal_form c) ≤ role_depth c) × (role_depth (negated_form c) ≤ role_depth c)

-- a longer table gives the numbers of the shorter one the same trees, and its next number that of the shape put there
abbrev pub TableGrows : Type 0
TableGrows = (table : List Shape) (s : Shape) (more : List Shape)
    → ((c : ℕ) → c < length table → tree_of (table ++ s ∷ more) c ≡ tree_of table c)
    × (tree_of (table ++ s ∷ more) (length table) ≡ tree_over (trees_of table) s)

-- where parts stand below the shapes that name them, the tree of a number is that of its shape over all trees
abbrev pub TreesFollowShapes : Type 0
TreesFollowShapes = (table : List Shape) (c : ℕ) → c < length table → has_parts_below c (shape_of table c) ≡ true
    → tree_of table c ≡ tree_over (trees_of table) (shape_of table c)

-- equal trees have equal numbers
abbrev pub NumbersAreUnique : Type 0
NumbersAreUnique = (table : List Shape) → IsTable table → (c d : ℕ) → c < length table → d < length table
    → tree_of table c ≡ tree_of table d → c ≡ d
