use Rattle.ofn_tree.proofs.Slices.{slices}
use Rattle.ofn_tree.proofs.lexer.tokens_are_slices.Goals as goal

pub returns : goal.returns
returns c = slices
