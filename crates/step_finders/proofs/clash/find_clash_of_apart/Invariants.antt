use Rattle.std.proofs.Common.{◌≡◌, true, ℕ, ◌<◌, get_or}
use Rattle.calculus_specs.specs.State.{has}
use Rattle.step_finders.specs.Clashing.{NoneAbove}
use Rattle.step_finders.proofs.clash.find_clash_of_apart.Given as goal

abbrev pub invariant-loop-concept : goal.invariant-loop-concept
invariant-loop-concept g l = (k d : ℕ) → k < l.concept-index
    → has (g.S.State.facts l.search.state.now) l.second (get_or l.concept-items k d) ≡ true
    → NoneAbove (g.R.Rules.context l.search.rules.now) (g.S.State.facts l.search.state.now) l.first
    (get_or l.concept-items k d)
