use Rattle.std.proofs.Common.{arith, get_or}
use Rattle.step_finders.specs.Clashing.{NoneOver, IsShown}
use Rattle.step_finders.proofs.Each.{each_more, none_said}
use Rattle.step_finders.proofs.Clashing.{no_clash_by_edge}
use Rattle.step_finders.proofs.clash.find_clash_of_edge.Goals as goal

pub returns : goal.returns
returns g c =
    no_clash_by_edge (g.R.Rules.context c.args.search.now.rules.now) (g.S.State.facts c.args.search.now.state.now)
    c.args.role c.args.begin
    c.args.end c.label-concept-items.result.now c.label-concept-items.ensures
    (λ k d lt. c.loop-concept.invariant k d (omega (arith, lt, c.loop-concept-test.false)))

pub loop-concept-preserved : goal.loop-concept-preserved
loop-concept-preserved g c =
    let w = g.R.Rules.context c.args.search.now.rules.now in
    let fs = g.S.State.facts c.args.search.now.state.now in
    each_more (NoneOver w fs c.args.begin c.args.role) c.label-concept-items.result.now c.loop-concept.concept-index 0
    c.loop-concept.invariant (omega (arith, c.loop-concept-test.true))
    (none_said
    (NoneOver w fs c.args.begin c.args.role (get_or c.label-concept-items.result.now c.loop-concept.concept-index 0))
    (IsShown w fs) c.find_by_filler.result c.in-None.is c.find_by_filler.ensures)
