use Rattle.tableau_specs.specs.Steps.{below_of}
use Rattle.step_finders.specs.Filled.{IsLeast}
use Rattle.step_finders.proofs.Later.{is_seen}
use Rattle.step_finders.proofs.overrun.next_filled.Given as goal

abbrev pub invariant-loop-edge : goal.invariant-loop-edge
invariant-loop-edge g l =
    IsLeast (is_seen (g.R.Rules.context l.search.rules.now).first (below_of (g.R.Rules.context l.search.rules.now))
    (g.S.State.facts l.search.state.now)
    l.node l.role l.filler l.edge-items l.from l.edge-index)
    l.least
