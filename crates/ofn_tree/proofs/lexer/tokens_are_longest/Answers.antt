use Rattle.ofn_tree.proofs.TokenLaws.{longest}
use Rattle.ofn_tree.proofs.lexer.tokens_are_longest.Goals as goal

pub returns : goal.returns
returns c = longest
