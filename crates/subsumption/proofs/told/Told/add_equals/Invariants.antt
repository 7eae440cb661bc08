use Rattle.std.proofs.Common.{◌≡◌}
use Rattle.subsumption.proofs.told.Told.add_equals.Given as goal

abbrev pub invariant-loop-concept : goal.invariant-loop-concept
invariant-loop-concept l = l.self.classes ≡ l.fn.self.classes
