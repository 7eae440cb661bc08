use Rattle.std.proofs.Common.{below_more, arith}
use Rattle.step_finders.proofs.Chosen.{no_union}
use Rattle.step_finders.proofs.choose.find_union.Goals as goal

pub loop-node-preserved : goal.loop-node-preserved
loop-node-preserved g c = below_more _ _ c.loop-node.invariant c.in-None.ensures

pub returns : goal.returns
returns g c =
    no_union (g.R.Rules.context c.args.search.now.rules.now) (g.S.State.facts c.args.search.now.state.now)
    (λ z lt own. c.loop-node.invariant z (omega (arith, lt, c.loop-node-test.false, c.count_of-node-end.ensures.count))
    own)
