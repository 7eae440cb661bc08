use Rattle.std.proofs.Common.{◌≡◌, length}
use Rattle.subsumption.proofs.told.Told.by.Given as goal

abbrev pub invariant-loop-numbered : goal.invariant-loop-numbered
invariant-loop-numbered l = l.told.classes ≡ length l.fn.ontology.classes
