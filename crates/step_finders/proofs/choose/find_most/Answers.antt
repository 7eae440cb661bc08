use Rattle.std.proofs.Common.{arith, ◌≡◌, below_more}
use Rattle.calculus_specs.specs.Joins.{rep}
use Rattle.step_finders.specs.Choosing.{NoMostAt, IsChoosable}
use Rattle.step_finders.proofs.Each.{none_said}
use Rattle.step_finders.proofs.Chosen.{no_most}
use Rattle.step_finders.proofs.choose.find_most.Goals as goal

pub returns : goal.returns
returns g c =
    no_most (g.R.Rules.context c.args.search.now.rules.now) (g.S.State.facts c.args.search.now.state.now)
    (λ z lt own. c.loop-node.invariant z (omega (arith, lt, c.loop-node-test.false, c.count_of-node-end.ensures.count))
    own)

pub loop-node-preserved : goal.loop-node-preserved
loop-node-preserved g c =
    let w = g.R.Rules.context c.args.search.now.rules.now in
    let fs = g.S.State.facts c.args.search.now.state.now in
    below_more _ _ c.loop-node.invariant
    (none_said (rep fs c.loop-node.node ≡ c.loop-node.node → NoMostAt w fs c.loop-node.node) (IsChoosable w fs)
    c.in_ok-choosing.field-0 c.in-None.is c.in_ok-choosing.ensures)
