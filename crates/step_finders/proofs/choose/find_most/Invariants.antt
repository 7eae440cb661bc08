use Rattle.std.proofs.Common.{◌≡◌, ℕ, ◌<◌}
use Rattle.calculus_specs.specs.Joins.{rep}
use Rattle.step_finders.specs.Choosing.{NoMostAt}
use Rattle.step_finders.proofs.choose.find_most.Given as goal

abbrev pub invariant-loop-node : goal.invariant-loop-node
invariant-loop-node g l = (k : ℕ) → k < l.node → rep (g.S.State.facts l.search.state.now) k ≡ k
    → NoMostAt (g.R.Rules.context l.search.rules.now) (g.S.State.facts l.search.state.now) k
