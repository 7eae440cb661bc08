use Rattle.std.proofs.Common.{}
use Rattle.all_worlds.proofs.Interpreted.{entailment_is_of_finite_worlds}
use Rattle.all_worlds.proofs.finite.entailment_is_of_finite_worlds.Goals as goal

pub returns : goal.returns
returns c = entailment_is_of_finite_worlds
