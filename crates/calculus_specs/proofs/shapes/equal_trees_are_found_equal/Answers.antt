use Rattle.calculus_specs.proofs.Same.{same_to_eq, eq_to_same}
use Rattle.calculus_specs.proofs.shapes.equal_trees_are_found_equal.Goals as goal

pub returns : goal.returns
returns c = λ x y. (same_to_eq x y, eq_to_same x y)
