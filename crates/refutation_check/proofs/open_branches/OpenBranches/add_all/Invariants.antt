use Rattle.std.proofs.Common.{◌≡◌, drop}
use Rattle.refutation_check.specs.Open.{knowing}
use Rattle.refutation_check.proofs.open_branches.OpenBranches.add_all.Given as goal

abbrev pub invariant-loop-fact : goal.invariant-loop-fact
invariant-loop-fact l = knowing l.self (drop l.fact-index l.facts) ≡ knowing l.fn.self l.facts
