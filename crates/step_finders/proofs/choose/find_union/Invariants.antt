use Rattle.std.proofs.Common.{◌≡◌, ℕ, ◌<◌}
use Rattle.calculus_specs.specs.Joins.{rep}
use Rattle.step_finders.specs.Choosing.{NoUnionAt}
use Rattle.step_finders.proofs.choose.find_union.Given as goal

abbrev pub invariant-loop-node : goal.invariant-loop-node
invariant-loop-node g l = (k : ℕ) → k < l.node → rep (g.S.State.facts l.search.state.now) k ≡ k
    → NoUnionAt (g.R.Rules.context l.search.rules.now) (g.S.State.facts l.search.state.now) k
