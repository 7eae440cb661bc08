use Rattle.refutation_truth.proofs.Unlisted.{unlisted}
use Rattle.refutation_truth.proofs.unlisted_are_not_refuted.Goals as goal

pub returns : goal.returns
returns c = unlisted
