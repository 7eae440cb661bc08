use Rattle.std.proofs.Common.{ℕ, ◌<◌, get_or}
use Rattle.step_finders.specs.Found.{AllEndsHave}
use Rattle.step_finders.proofs.parts.find_carried.Given as goal

abbrev pub invariant-loop-carry : goal.invariant-loop-carry
invariant-loop-carry g l = (k : ℕ) (d : ℕ × ℕ) → k < l.carry-index
    → AllEndsHave (g.R.Rules.context l.search.rules.now) (g.S.State.facts l.search.state.now) l.node
    (get_or l.carries k d).0
    (get_or l.carries k d).1
