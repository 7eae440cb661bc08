use Rattle.std.proofs.Common.{arith, get_or, sym}
use Rattle.step_finders.specs.Clashing.{NoClashBy, IsShown}
use Rattle.step_finders.proofs.Each.{each_more, none_said}
use Rattle.step_finders.proofs.Clashing.{no_clash_by_join}
use Rattle.step_finders.proofs.clash.find_clash_of_join.Goals as goal

pub returns : goal.returns
returns g c =
    no_clash_by_join (g.R.Rules.context c.args.search.now.rules.now) (g.S.State.facts c.args.search.now.state.now)
    c.args.node
    c.label-concept-items.result.now (sym c.if-are_apart.ensures) c.label-concept-items.ensures
    (λ k d lt. c.loop-concept.invariant k d (omega (arith, lt, c.loop-concept-test.false)))

pub loop-concept-preserved : goal.loop-concept-preserved
loop-concept-preserved g c =
    let w = g.R.Rules.context c.args.search.now.rules.now in
    let fs = g.S.State.facts c.args.search.now.state.now in
    each_more (NoClashBy w fs c.args.node) c.label-concept-items.result.now c.loop-concept.concept-index 0
    c.loop-concept.invariant (omega (arith, c.loop-concept-test.true))
    (none_said (NoClashBy w fs c.args.node (get_or c.label-concept-items.result.now c.loop-concept.concept-index 0))
    (IsShown w fs) c.find_clash.result c.in-None.is c.find_clash.ensures)
