use Rattle.std.proofs.Common.{ℕ, ◌<◌, get_or}
use Rattle.calculus_specs.specs.Shape.{shape_of}
use Rattle.step_finders.specs.Found.{NoneByShape}
use Rattle.step_finders.proofs.parts.find_at_node.Given as goal

abbrev pub invariant-loop-concept : goal.invariant-loop-concept
invariant-loop-concept g l = (k d : ℕ) → k < l.concept-index
    → NoneByShape (g.R.Rules.context l.search.rules.now) (g.S.State.facts l.search.state.now) l.node
    (shape_of (g.R.Rules.context l.search.rules.now).table (get_or l.concept-items k d))
