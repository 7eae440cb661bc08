use Rattle.refutation_check.proofs.Checkable.{in_limit_checkable}
use Rattle.refutation_check.proofs.laws.what_is_in_limit_is_checkable.Goals as goal

pub returns : goal.returns
returns c = in_limit_checkable
