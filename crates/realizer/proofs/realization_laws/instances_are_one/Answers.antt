use Rattle.realizer.proofs.Unique.{one_list}
use Rattle.realizer.proofs.realization_laws.instances_are_one.Goals as goal

pub returns : goal.returns
returns c = one_list
