use Rattle.std.proofs.Common.{}
use Rattle.pinpointing_specs.proofs.Grown.{grows}
use Rattle.pinpointing_specs.proofs.module_laws.following_grows.Goals as goal

pub returns : goal.returns
returns c = λ axioms q. grows axioms q
