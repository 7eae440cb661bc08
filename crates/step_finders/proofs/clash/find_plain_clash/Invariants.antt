use Rattle.std.proofs.Common.{ℕ, ◌<◌}
use Rattle.step_finders.specs.Clashing.{NoneAt}
use Rattle.step_finders.proofs.clash.find_plain_clash.Given as goal

abbrev pub invariant-loop-node : goal.invariant-loop-node
invariant-loop-node g l =
    (x : ℕ) → x < l.node → NoneAt (g.R.Rules.context l.search.rules.now) (g.S.State.facts l.search.state.now) x
