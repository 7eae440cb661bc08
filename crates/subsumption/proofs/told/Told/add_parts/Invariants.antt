use Rattle.std.proofs.Common.{◌≡◌}
use Rattle.subsumption.proofs.told.Told.add_parts.Given as goal

abbrev pub invariant-loop-part : goal.invariant-loop-part
invariant-loop-part l = l.self.classes ≡ l.fn.self.classes
