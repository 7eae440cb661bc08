use Rattle.refutation_truth.proofs.NumberedParts.{numbered}
use Rattle.refutation_truth.proofs.parts_are_numbered.Goals as goal

pub returns : goal.returns
returns c = numbered
