use Rattle.std.proofs.Common.{}
use Rattle.axiom_sets.proofs.Same.{set_of_parts}
use Rattle.pinpointing_specs.proofs.module_laws.modules_are_unique.Goals as goal

pub returns : goal.returns
returns c = λ axioms q s t first second. set_of_parts s t (first.least t second.closed) (second.least s first.closed)
