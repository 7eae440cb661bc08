use Rattle.std.proofs.Common.{◌≡◌, ℕ, ◌<◌}
use Rattle.calculus_specs.specs.Joins.{rep}
use Rattle.step_finders.specs.Found.{NothingFrom}
use Rattle.step_finders.proofs.add.find_add.Given as goal

abbrev pub invariant-loop-node : goal.invariant-loop-node
invariant-loop-node g l = (k : ℕ) → k < l.node → rep (g.S.State.facts l.search.state.now) k ≡ k
    → NothingFrom (g.R.Rules.context l.search.rules.now) (g.S.State.facts l.search.state.now)
    (g.R.Rules.files l.search.rules.now) k
