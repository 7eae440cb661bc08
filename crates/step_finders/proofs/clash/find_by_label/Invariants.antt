use Rattle.std.proofs.Common.{ℕ, ◌<◌, get_or}
use Rattle.calculus_specs.specs.Shape.{shape_of}
use Rattle.step_finders.specs.Clashing.{NoneByShape}
use Rattle.step_finders.proofs.clash.find_by_label.Given as goal

abbrev pub invariant-loop-concept : goal.invariant-loop-concept
invariant-loop-concept g l =
    let w = g.R.Rules.context l.search.rules.now in
    (k d : ℕ) → k < l.concept-index
    → NoneByShape w (g.S.State.facts l.search.state.now) l.node (shape_of w.table (get_or l.concept-items k d))
