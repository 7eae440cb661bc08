use Rattle.std.proofs.Common.{◌≡◌}
use Rattle.job_tests.proofs.transversal_tests.mixed.Given as goal

abbrev pub invariant-loop-place : goal.invariant-loop-place
invariant-loop-place l = l.set.limit ≡ 30
