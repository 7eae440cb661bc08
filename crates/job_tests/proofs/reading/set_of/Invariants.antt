use Rattle.std.proofs.Common.{◌≡◌}
use Rattle.job_tests.proofs.reading.set_of.Given as goal

abbrev pub invariant-loop-number : goal.invariant-loop-number
invariant-loop-number l = l.set.limit ≡ l.count
