use Rattle.ofn_reader.proofs.OneReason.{addition_refusals}
use Rattle.ofn_reader.proofs.laws.addition_refusals_are_unique.Goals as goal

pub returns : goal.returns
returns c = addition_refusals
