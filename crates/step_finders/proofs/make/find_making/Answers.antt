use Rattle.std.proofs.Common.{arith, below_more}
use Rattle.tableau_specs.specs.Steps.{IsOpen}
use Rattle.step_finders.specs.Making.{NoMakingAt, IsMaking}
use Rattle.step_finders.proofs.Each.{none_said}
use Rattle.step_finders.proofs.Making.{nothing_to_make}
use Rattle.step_finders.proofs.make.find_making.Goals as goal

pub returns : goal.returns
returns g c =
    nothing_to_make (g.R.Rules.context c.args.search.now.rules.now) (g.S.State.facts c.args.search.now.state.now)
    (λ z lt open'. c.loop-node.invariant z
    (omega (arith, lt, c.loop-node-test.false, c.count_of-node-end.ensures.count)) open')

pub loop-node-preserved : goal.loop-node-preserved
loop-node-preserved g c =
    let w = g.R.Rules.context c.args.search.now.rules.now in
    let fs = g.S.State.facts c.args.search.now.state.now in
    below_more _ _ c.loop-node.invariant
    (none_said (IsOpen w fs c.loop-node.node → NoMakingAt w fs c.loop-node.node) (IsMaking w fs) c.in_ok-new.field-0
    c.in-None.is c.in_ok-new.ensures)
