use Rattle.std.proofs.Common.{◌≡◌, ◌+◌, ◌-◌}
use Rattle.calculus_specs.specs.State.{apart_from}
use Rattle.refutation_check.specs.Open.{knowing}
use Rattle.refutation_check.proofs.open_branches.OpenBranches.keep_from.Given as goal

abbrev pub invariant-loop-place : goal.invariant-loop-place
invariant-loop-place l =
    knowing l.self (apart_from l.node (l.node + 1 + l.place) (l.count - l.place))
    ≡ knowing l.fn.self (apart_from l.node (l.node + 1) l.count)
