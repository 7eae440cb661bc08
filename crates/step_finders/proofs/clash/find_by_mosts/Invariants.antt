use Rattle.std.proofs.Common.{ℕ, ◌<◌, get_or}
use Rattle.step_finders.specs.Clashing.{NotOverrun}
use Rattle.step_finders.proofs.clash.find_by_mosts.Given as goal

abbrev pub invariant-loop-concept : goal.invariant-loop-concept
invariant-loop-concept g l = (k d : ℕ) → k < l.concept-index
    → NotOverrun (g.R.Rules.context l.search.rules.now) (g.S.State.facts l.search.state.now) l.node l.filler
    (get_or l.concepts k d)
