use Rattle.refutation_truth.proofs.Entailed.{entailed_on_any}
use Rattle.refutation_truth.proofs.refutations_on_any_entail.Goals as goal

pub returns : goal.returns
returns c = entailed_on_any
