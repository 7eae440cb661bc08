use Rattle.std.proofs.Common.{ℕ, ◌<◌, get_or}
use Rattle.step_finders.specs.Clashing.{NoneOver}
use Rattle.step_finders.proofs.clash.find_clash_of_edge.Given as goal

abbrev pub invariant-loop-concept : goal.invariant-loop-concept
invariant-loop-concept g l = (k d : ℕ) → k < l.concept-index
    → NoneOver (g.R.Rules.context l.search.rules.now) (g.S.State.facts l.search.state.now) l.begin l.role
    (get_or l.concept-items k d)
