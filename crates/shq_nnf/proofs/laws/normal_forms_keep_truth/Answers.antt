use Rattle.std.proofs.Common.{}
use Rattle.shq_nnf.proofs.Truth.{normal_truth, negated_truth}
use Rattle.shq_nnf.proofs.laws.normal_forms_keep_truth.Goals as goal

pub returns : goal.returns
returns c = λ i d x. (normal_truth i d x, negated_truth i d x)
