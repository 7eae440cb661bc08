use Rattle.realizer.proofs.Unique.{one_realization}
use Rattle.realizer.proofs.realization_laws.types_are_one.Goals as goal

pub returns : goal.returns
returns c = one_realization
