use Rattle.ofn_tree.proofs.Lines.{lines}
use Rattle.ofn_tree.proofs.lexer.tokens_have_lines.Goals as goal

pub returns : goal.returns
returns c = lines
