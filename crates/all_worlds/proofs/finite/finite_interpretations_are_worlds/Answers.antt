use Rattle.std.proofs.Common.{}
use Rattle.all_worlds.proofs.Interpreted.{means_the_same}
use Rattle.all_worlds.proofs.finite.finite_interpretations_are_worlds.Goals as goal

pub returns : goal.returns
returns c = means_the_same
