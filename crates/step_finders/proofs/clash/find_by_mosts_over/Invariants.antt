use Rattle.std.proofs.Common.{ℕ, ◌<◌, get_or}
use Rattle.step_finders.specs.Clashing.{NotOverrunOver}
use Rattle.step_finders.proofs.clash.find_by_mosts_over.Given as goal

abbrev pub invariant-loop-concept : goal.invariant-loop-concept
invariant-loop-concept g l = (k d : ℕ) → k < l.concept-index
    → NotOverrunOver (g.R.Rules.context l.search.rules.now) (g.S.State.facts l.search.state.now) l.node l.role l.filler
    (get_or l.concepts k d)
