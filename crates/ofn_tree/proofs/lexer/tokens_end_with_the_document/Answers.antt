use Rattle.ofn_tree.proofs.Ends.{ends, first}
use Rattle.ofn_tree.proofs.lexer.tokens_end_with_the_document.Goals as goal

pub returns-clause-ends : goal.returns-clause-ends
returns-clause-ends c = ends

pub returns-clause-first : goal.returns-clause-first
returns-clause-first c = first
