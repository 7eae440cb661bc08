use Rattle.ofn_tree.proofs.TokenLaws.{gaps}
use Rattle.ofn_tree.proofs.lexer.only_gaps_stand_between_tokens.Goals as goal

pub returns : goal.returns
returns c = gaps
