use Rattle.tableau_specs.specs.Steps.{below_of}
use Rattle.step_finders.proofs.Gathered.{IsPut}
use Rattle.step_finders.proofs.counted.filled_successors.Given as goal

abbrev pub invariant-loop-edge : goal.invariant-loop-edge
invariant-loop-edge g l =
    IsPut (below_of (g.R.Rules.context l.search.rules.now)) (g.S.State.facts l.search.state.now) l.node l.role l.filler
    l.edge-items
    l.edge-index l.found.items
