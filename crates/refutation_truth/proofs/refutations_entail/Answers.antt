use Rattle.refutation_truth.proofs.Entailed.{entailed}
use Rattle.refutation_truth.proofs.refutations_entail.Goals as goal

pub returns : goal.returns
returns c = entailed
