use Rattle.std.proofs.Common.{◌≡◌}
use Rattle.subsumption.proofs.told.Told.add_each.Given as goal

abbrev pub invariant-loop-sup : goal.invariant-loop-sup
invariant-loop-sup l = l.self.classes ≡ l.fn.self.classes
