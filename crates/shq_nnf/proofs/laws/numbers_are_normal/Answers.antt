use Rattle.std.proofs.Common.{}
use Rattle.shq_nnf.proofs.Stable.{normal_stays}
use Rattle.shq_nnf.proofs.laws.numbers_are_normal.Goals as goal

pub returns : goal.returns
returns c = λ table good n below. normal_stays table good n below
