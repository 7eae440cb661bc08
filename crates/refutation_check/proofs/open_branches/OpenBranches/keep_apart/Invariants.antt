use Rattle.std.proofs.Common.{◌≡◌, ◌+◌, ◌-◌}
use Rattle.calculus_specs.specs.State.{pairwise_apart}
use Rattle.refutation_check.specs.Open.{knowing}
use Rattle.refutation_check.proofs.open_branches.OpenBranches.keep_apart.Given as goal

abbrev pub invariant-loop-place : goal.invariant-loop-place
invariant-loop-place l =
    knowing l.self (pairwise_apart (l.first + l.place) (l.count - l.place))
    ≡ knowing l.fn.self (pairwise_apart l.first l.count)
