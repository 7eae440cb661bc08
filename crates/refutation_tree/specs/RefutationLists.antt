-- What a refutation keeps.
use Rattle.std.specs.Prelude.{◌≡◌, ℕ, ◌^◌, ◌<◌, true, List, length, Option, MatchOption}
use Rattle.std.specs.List.{list_all}
use Rattle.axiom_sets.specs.Sets.{Limited}
use Rattle.shq_nnf.specs.Shape.{Shape}
use Rattle.shq_nnf.specs.Shape.Shape.{top}
use Rattle.shq_nnf.specs.declared.shapes.OwnedShape.{OwnedShape}
use Rattle.shq_nnf.specs.Shapes.{form_of_owned}
use Rattle.shq_nnf.specs.Line.{Line}
use denote.Ref.{Bor}
use Rattle.refutation_tree.specs.Shapes.{shape_at, AreShapes}
use Rattle.refutation_tree.specs.RuleLine.{names_concepts}

-- the axioms that are named, the shapes of concepts numbered from 1, and the rule lines in preorder
pub record RefutationLists : Type 0 where
  pub axioms : Limited
  pub shapes : List Shape
  pub lines : List Line

-- the numbers of concepts fit 32 bits, the shapes are normal and stand once, and each number of a concept on a rule
-- line is that of a shape
pub record IsKept (shapes : List Shape) (lines : List Line) : Type 0 where
  pub few : length shapes < 2 ^ 32
  pub are_shapes : AreShapes shapes
  pub are_known : list_all (names_concepts shapes) lines ≡ true

-- the kept shape of a number, where there is one
abbrev pub IsKeptAt : List Shape → ℕ → Option (Bor OwnedShape) → Type 0
IsKeptAt shapes c kept = MatchOption kept (shape_at shapes c ≡ top) (λ k. form_of_owned k.now ≡ shape_at shapes c)
