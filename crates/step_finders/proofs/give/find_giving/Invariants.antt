use Rattle.std.proofs.Common.{◌≡◌, true, ℕ, ◌<◌, get_or}
use Rattle.calculus_specs.specs.State.{is_so}
use Rattle.step_finders.specs.declared.state.Given.{Given}
use Rattle.step_finders.proofs.give.find_giving.Given as goal

abbrev pub invariant-loop-given : goal.invariant-loop-given
invariant-loop-given g l = (k : ℕ) (d : Given) → k < l.given-index
    → is_so (g.S.State.facts l.search.state.now) (get_or l.given-items k d).fact ≡ true
