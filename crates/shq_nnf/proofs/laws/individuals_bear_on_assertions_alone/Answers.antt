use Rattle.std.proofs.Common.{}
use Rattle.shq_nnf.proofs.Elsewhere.{met_elsewhere, refuted_elsewhere}
use Rattle.shq_nnf.proofs.laws.individuals_bear_on_assertions_alone.Goals as goal

pub returns : goal.returns
returns c = λ i place. (met_elsewhere i place, refuted_elsewhere i place)
