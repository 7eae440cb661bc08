use Rattle.std.proofs.Common.{◌∷◌}
use Rattle.calculus_specs.proofs.Tree.{tree_of-append, tree_of_new}
use Rattle.calculus_specs.proofs.shapes.numbers_keep_their_trees.Goals as goal

pub returns : goal.returns
returns c = λ table s more. (λ n. tree_of-append table (s ∷ more) n, tree_of_new table s more)
