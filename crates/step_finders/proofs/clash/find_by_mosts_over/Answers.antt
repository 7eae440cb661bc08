use Rattle.std.proofs.Common.{arith}
use Rattle.step_finders.specs.Clashing.{NotOverrunOver, IsShown}
use Rattle.step_finders.proofs.Each.{each_more, none_said}
use Rattle.step_finders.proofs.clash.find_by_mosts_over.Goals as goal

pub loop-concept-preserved : goal.loop-concept-preserved
loop-concept-preserved g c =
    let w = g.R.Rules.context c.args.search.now.rules.now in
    let fs = g.S.State.facts c.args.search.now.state.now in
    each_more (NotOverrunOver w fs c.args.node c.args.role c.args.filler) c.args.concepts.now
    c.loop-concept.concept-index 0 c.loop-concept.invariant (omega (arith, c.loop-concept-test.true))
    (none_said (NotOverrunOver w fs c.args.node c.args.role c.args.filler _) (IsShown w fs) c.find_by_most_over.result
    c.in-None.is c.find_by_most_over.ensures)
