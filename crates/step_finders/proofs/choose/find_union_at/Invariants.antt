use Rattle.std.proofs.Common.{ℕ, ◌<◌, get_or}
use Rattle.calculus_specs.specs.Shape.{shape_of}
use Rattle.step_finders.specs.Choosing.{NoUnionByShape}
use Rattle.step_finders.proofs.choose.find_union_at.Given as goal

abbrev pub invariant-loop-concept : goal.invariant-loop-concept
invariant-loop-concept g l = (k d : ℕ) → k < l.concept-index
    → NoUnionByShape (g.R.Rules.context l.search.rules.now) (g.S.State.facts l.search.state.now) l.node
    (shape_of (g.R.Rules.context l.search.rules.now).table (get_or l.concept-items k d))
