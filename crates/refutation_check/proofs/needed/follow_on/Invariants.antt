use Rattle.std.proofs.Common.{length}
use Rattle.refutation_check.specs.Open.{branches, AreNumberedBranches}
use Rattle.refutation_check.proofs.needed.follow_on.Given as goal

abbrev pub invariant-loop-line : goal.invariant-loop-line
invariant-loop-line l = AreNumberedBranches (length l.rules.table) (branches l.stack)
