use Rattle.refutation_truth.proofs.Old.{old_stand}
use Rattle.refutation_truth.proofs.old_refutations_stand.Goals as goal

pub returns : goal.returns
returns c = old_stand
