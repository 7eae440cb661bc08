use Rattle.refutation_tree.proofs.Normal.{shapes_are_normal}
use Rattle.refutation_tree.proofs.laws.concepts_are_normal.Goals as goal

pub returns : goal.returns
returns c = shapes_are_normal
