use Rattle.std.proofs.Common.{◌≡◌, drop}
use Rattle.calculus_specs.specs.Joins.{rep}
use Rattle.calculus_specs.specs.State.{node_count_from}
use Rattle.completion_tree.specs.Trail.{facts_in}
use Rattle.blocking.specs.Changed.{least_touched}
use Rattle.blocking.proofs.changed.least_changed.Given as goal

abbrev pub invariant-loop-at : goal.invariant-loop-at
invariant-loop-at g l =
    least_touched l.tree.first (rep (facts_in l.tree.entries)) l.least (facts_in (drop l.at l.tree.entries))
    ≡ least_touched l.tree.first (rep (facts_in l.tree.entries))
    (node_count_from l.tree.first (facts_in l.tree.entries)) (facts_in (drop l.place l.tree.entries))
