use Rattle.std.proofs.Common.{ℕ, ◌<◌}
use Rattle.tableau_specs.specs.Steps.{IsOpen}
use Rattle.step_finders.specs.Making.{NoMakingAt}
use Rattle.step_finders.proofs.make.find_making.Given as goal

abbrev pub invariant-loop-node : goal.invariant-loop-node
invariant-loop-node g l =
    (k : ℕ) → k < l.node → IsOpen (g.R.Rules.context l.search.rules.now) (g.S.State.facts l.search.state.now) k
    → NoMakingAt (g.R.Rules.context l.search.rules.now) (g.S.State.facts l.search.state.now) k
