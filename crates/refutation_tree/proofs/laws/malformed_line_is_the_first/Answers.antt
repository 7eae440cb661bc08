use Rattle.refutation_tree.proofs.FirstLine.{refutation_tells}
use Rattle.refutation_tree.proofs.laws.malformed_line_is_the_first.Goals as goal

pub returns : goal.returns
returns c = refutation_tells
