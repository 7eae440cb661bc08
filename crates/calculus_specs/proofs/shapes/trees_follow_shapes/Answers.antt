use Rattle.calculus_specs.proofs.Unique.{tree_of_shape}
use Rattle.calculus_specs.proofs.shapes.trees_follow_shapes.Goals as goal

pub returns : goal.returns
returns c = tree_of_shape
