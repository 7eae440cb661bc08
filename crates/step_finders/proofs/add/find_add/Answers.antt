use Rattle.std.proofs.Common.{below_more, arith}
use Rattle.step_finders.proofs.Nothing.{nothing_to_add}
use Rattle.step_finders.proofs.add.find_add.Goals as goal

pub loop-node-preserved : goal.loop-node-preserved
loop-node-preserved g c = below_more _ _ c.loop-node.invariant c.in-None.ensures

pub returns : goal.returns
returns g c =
    nothing_to_add (g.R.Rules.context c.args.search.now.rules.now) (g.R.Rules.files c.args.search.now.rules.now)
    c.is_ready.ensures.tabled
    c.is_ready.ensures.filed (g.S.State.facts c.args.search.now.state.now)
    (λ z lt own. c.loop-node.invariant z (omega (arith, lt, c.loop-node-test.false, c.count_of-node-end.ensures.count))
    own)
