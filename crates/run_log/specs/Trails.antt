-- What is kept of a trail.
use Rattle.std.specs.Prelude.{List}
use Rattle.calculus_specs.specs.Shape.{Shape}
use Rattle.tableau_specs.specs.declared.Item.{Item}

-- facts and marks, and the shapes of the concept numbers in them
pub record TrailLists : Type 0 where
  pub items : List Item
  pub table : List Shape
