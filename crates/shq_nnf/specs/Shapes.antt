-- The shapes that the code shows and keeps, as plain shapes.
use Rattle.std.specs.Prelude.{List}
use Rattle.shq_meaning.specs.Concept.{Concept}
use Rattle.calculus_specs.specs.Tree.{tree_over, trees_of}
use Rattle.calculus_specs.specs.Shape.{Shape, top, bottom, name, not_name, intersection, union, some_of, all_of}
use Rattle.calculus_specs.specs.Shape.{at_least, at_most}
use Rattle.shq_nnf.specs.declared.shapes.OwnedShape.{OwnedShape}
use Rattle.shq_nnf.specs.declared.shapes.OwnedShape.TheVariants as K
use Rattle.shq_nnf.specs.declared.shapes.Shape.{Shape as Shown}
use Rattle.shq_nnf.specs.declared.shapes.Shape.TheVariants as S

-- the plain shape of one that the code shows
abbrev pub form_of : Shown → Shape
form_of S.Top = top
form_of S.Bottom = bottom
form_of (S.Name a) = name a
form_of (S.NotName a) = not_name a
form_of (S.And cs) = intersection cs.now
form_of (S.Or cs) = union cs.now
form_of (S.SomeOf r c) = some_of r c
form_of (S.AllOf r c) = all_of r c
form_of (S.Min n r c) = at_least n r c
form_of (S.Max n r c) = at_most n r c

-- the concept that a shape stands for, whose parts are numbers of the table
abbrev pub concept_of : List Shape → Shown → Concept
concept_of table s = tree_over (trees_of table) (form_of s)

-- the plain shape of one that the code keeps
abbrev pub form_of_owned : OwnedShape → Shape
form_of_owned K.Top = top
form_of_owned K.Bottom = bottom
form_of_owned (K.Name a) = name a
form_of_owned (K.NotName a) = not_name a
form_of_owned (K.And cs) = intersection cs.items
form_of_owned (K.Or cs) = union cs.items
form_of_owned (K.SomeOf r c) = some_of r c
form_of_owned (K.AllOf r c) = all_of r c
form_of_owned (K.Min n r c) = at_least n r c
form_of_owned (K.Max n r c) = at_most n r c
