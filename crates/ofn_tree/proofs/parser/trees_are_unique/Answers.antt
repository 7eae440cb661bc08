use Rattle.ofn_tree.proofs.Unique.{unique}
use Rattle.ofn_tree.proofs.parser.trees_are_unique.Goals as goal

pub returns : goal.returns
returns c = unique
