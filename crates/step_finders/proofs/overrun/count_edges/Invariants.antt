use Rattle.std.proofs.Common.{◌≡◌, ◌≤◌, ◌&&◌, take}
use Rattle.std.specs.List.{count_by}
use Rattle.calculus_specs.specs.State.{has}
use Rattle.tableau_specs.specs.Steps.{below_of}
use Rattle.step_finders.proofs.overrun.count_edges.Given as goal

abbrev pub invariant-loop-edge : goal.invariant-loop-edge
invariant-loop-edge g l =
    (l.count ≡ count_by
    (λ p. below_of (g.R.Rules.context l.search.rules.now) p.0 l.role && has (g.S.State.facts l.search.state.now) p.1
    l.filler)
    (take l.edge-index l.edge-items))
    × (l.count ≤ l.edge-index)
