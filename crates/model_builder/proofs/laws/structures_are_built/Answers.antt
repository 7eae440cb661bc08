use Rattle.model_builder.proofs.Built.{structures_are_built}
use Rattle.model_builder.proofs.laws.structures_are_built.Goals as goal

pub returns : goal.returns
returns c = structures_are_built
