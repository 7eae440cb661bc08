use Rattle.ofn_tree.specs.Document.{document}
use Rattle.ofn_tree.proofs.Reading.{read_or_faulty}
use Rattle.ofn_tree.proofs.lexer.texts_are_read_or_faulty.Goals as goal

pub returns : goal.returns
returns c = λ input. read_or_faulty (document input)
