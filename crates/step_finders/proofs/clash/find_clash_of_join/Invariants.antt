use Rattle.std.proofs.Common.{ℕ, ◌<◌, get_or}
use Rattle.step_finders.specs.Clashing.{NoClashBy}
use Rattle.step_finders.proofs.clash.find_clash_of_join.Given as goal

abbrev pub invariant-loop-concept : goal.invariant-loop-concept
invariant-loop-concept g l = (k d : ℕ) → k < l.concept-index
    → NoClashBy (g.R.Rules.context l.search.rules.now) (g.S.State.facts l.search.state.now) l.node
    (get_or l.concept-items k d)
