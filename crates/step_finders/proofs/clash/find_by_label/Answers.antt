use Rattle.std.proofs.Common.{ℕ, arith, get_or}
use Rattle.calculus_specs.specs.Shape.{shape_of}
use Rattle.step_finders.specs.Clashing.{NoneByShape, IsShown}
use Rattle.step_finders.proofs.Each.{each_more, none_said}
use Rattle.step_finders.proofs.Clashing.{none_by_label}
use Rattle.step_finders.proofs.clash.find_by_label.Goals as goal

pub returns : goal.returns
returns g c =
    none_by_label (g.R.Rules.context c.args.search.now.rules.now) (g.S.State.facts c.args.search.now.state.now)
    c.args.node
    c.label-concept-items.result.now c.label-concept-items.ensures
    (λ k d lt. c.loop-concept.invariant k d (omega (arith, lt, c.loop-concept-test.false)))

pub loop-concept-preserved : goal.loop-concept-preserved
loop-concept-preserved g c =
    let w = g.R.Rules.context c.args.search.now.rules.now in
    let fs = g.S.State.facts c.args.search.now.state.now in
    let none : ℕ → Type 0 = λ (e : ℕ). NoneByShape w fs c.args.node (shape_of w.table e) in
    each_more none c.label-concept-items.result.now c.loop-concept.concept-index 0 c.loop-concept.invariant
    (omega (arith, c.loop-concept-test.true))
    (none_said (none (get_or c.label-concept-items.result.now c.loop-concept.concept-index 0)) (IsShown w fs)
    c.find_at_node.result c.in-None.is c.find_at_node.ensures)
