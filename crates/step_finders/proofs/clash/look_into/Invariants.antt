use Rattle.std.proofs.Common.{ℕ, ◌<◌, get_or, IfSome}
use Rattle.calculus_specs.specs.Joins.{rep}
use Rattle.step_finders.specs.Clashing.{NoneOverrun}
use Rattle.step_finders.proofs.clash.look_into.Given as goal

abbrev pub invariant-loop-edge : goal.invariant-loop-edge
invariant-loop-edge g l =
    ((k : ℕ) (d : ℕ × ℕ) → k < l.edge-index
    → NoneOverrun (g.R.Rules.context l.search.rules.now) (g.S.State.facts l.search.state.now)
    (rep (g.S.State.facts l.search.state.now) (get_or l.edge-items k d).1) l.filler)
    × IfSome l.last (λ z. NoneOverrun (g.R.Rules.context l.search.rules.now) (g.S.State.facts l.search.state.now) z
    l.filler)
