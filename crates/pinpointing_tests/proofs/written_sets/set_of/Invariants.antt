use Rattle.std.proofs.Common.{◌≡◌}
use Rattle.pinpointing_tests.proofs.written_sets.set_of.Given as goal

abbrev pub invariant-loop-digit : goal.invariant-loop-digit
invariant-loop-digit l = l.set.limit ≡ l.count
