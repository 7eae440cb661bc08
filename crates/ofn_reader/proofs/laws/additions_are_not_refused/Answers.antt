use Rattle.ofn_reader.proofs.Unique.{additions_not_refused}
use Rattle.ofn_reader.proofs.laws.additions_are_not_refused.Goals as goal

pub returns : goal.returns
returns c = additions_not_refused
