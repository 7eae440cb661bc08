use Rattle.std.proofs.Common.{◌≡◌, true, ℕ, ◌<◌, get_or}
use Rattle.calculus_specs.specs.Joins.{rep}
use Rattle.tableau_specs.specs.Steps.{below_of}
use Rattle.step_finders.proofs.choose.role_to.Given as goal

abbrev pub invariant-loop-edge : goal.invariant-loop-edge
invariant-loop-edge g l = (k : ℕ) (d : ℕ × ℕ) → k < l.edge-index
    → below_of (g.R.Rules.context l.search.rules.now) (get_or l.edge-items k d).0 l.role ≡ true
    → rep (g.S.State.facts l.search.state.now) (get_or l.edge-items k d).1 ≡ l.end → ⊥
