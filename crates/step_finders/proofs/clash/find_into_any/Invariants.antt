use Rattle.std.proofs.Common.{ℕ, ◌<◌, get_or, IfSome}
use Rattle.step_finders.specs.Clashing.{NoneOverrun, NoneInto}
use Rattle.step_finders.proofs.clash.find_into_any.Given as goal

abbrev pub invariant-loop-node : goal.invariant-loop-node
invariant-loop-node g l =
    ((k d : ℕ) → k < l.node-index
    → NoneInto (g.R.Rules.context l.search.rules.now) (g.S.State.facts l.search.state.now) l.filler
    (get_or l.nodes k d))
    × IfSome l.last (λ z. NoneOverrun (g.R.Rules.context l.search.rules.now) (g.S.State.facts l.search.state.now) z
    l.filler)
