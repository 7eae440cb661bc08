use Rattle.refutation_truth.proofs.Entailed.{entailed_by_all}
use Rattle.refutation_truth.proofs.refutations_entail_by_all.Goals as goal

pub returns : goal.returns
returns c = entailed_by_all
