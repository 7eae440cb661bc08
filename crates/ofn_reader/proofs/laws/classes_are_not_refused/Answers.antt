use Rattle.ofn_reader.proofs.Unique.{classes_not_refused}
use Rattle.ofn_reader.proofs.laws.classes_are_not_refused.Goals as goal

pub returns : goal.returns
returns c = classes_not_refused
