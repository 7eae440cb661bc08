use Rattle.refutation_tree.proofs.TextBack.{refutation_read_back}
use Rattle.refutation_tree.proofs.laws.refutations_are_read_back.Goals as goal

pub returns : goal.returns
returns c = refutation_read_back
