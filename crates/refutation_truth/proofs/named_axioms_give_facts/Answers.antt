use Rattle.refutation_truth.proofs.Asserted.{all_given}
use Rattle.refutation_truth.proofs.named_axioms_give_facts.Goals as goal

pub returns : goal.returns
returns c = all_given
