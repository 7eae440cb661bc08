use Rattle.ofn_reader.proofs.Unique.{additions}
use Rattle.ofn_reader.proofs.laws.additions_are_unique.Goals as goal

pub returns : goal.returns
returns c = additions
