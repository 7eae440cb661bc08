use Rattle.ofn_reader.proofs.OneReason.{class_refusals}
use Rattle.ofn_reader.proofs.laws.class_refusals_are_unique.Goals as goal

pub returns : goal.returns
returns c = class_refusals
