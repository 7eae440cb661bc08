use Rattle.std.proofs.Common.{◌≡◌, ◌+◌, ◌-◌}
use Rattle.calculus_specs.specs.State.{new_nodes}
use Rattle.refutation_check.specs.Open.{knowing}
use Rattle.refutation_check.proofs.open_branches.OpenBranches.add_edges.Given as goal

abbrev pub invariant-loop-place : goal.invariant-loop-place
invariant-loop-place l =
    knowing l.self
    (new_nodes l.nodes.from l.nodes.role l.nodes.concept (l.nodes.first + l.place) (l.nodes.count - l.place))
    ≡ knowing l.fn.self (new_nodes l.nodes.from l.nodes.role l.nodes.concept l.nodes.first l.nodes.count)
