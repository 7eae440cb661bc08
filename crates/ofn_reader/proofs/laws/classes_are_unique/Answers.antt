use Rattle.ofn_reader.proofs.Unique.{classes}
use Rattle.ofn_reader.proofs.laws.classes_are_unique.Goals as goal

pub returns : goal.returns
returns c = classes
