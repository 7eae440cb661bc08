use Rattle.std.proofs.Common.{◌≡◌, ◌&&◌, drop}
use Rattle.calculus_specs.specs.State.{all_apart}
use Rattle.refutation_rules.proofs.counts.are_all_apart.Given as goal

abbrev pub invariant-loop-place : goal.invariant-loop-place
invariant-loop-place l = (l.apart && all_apart l.branch.facts (drop l.place l.nodes)) ≡ all_apart l.branch.facts l.nodes
