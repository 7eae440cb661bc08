use Rattle.std.proofs.Common.{below_more, arith}
use Rattle.step_finders.proofs.Clashing.{none_anywhere}
use Rattle.step_finders.proofs.clash.find_plain_clash.Goals as goal

pub loop-node-preserved : goal.loop-node-preserved
loop-node-preserved g c = below_more _ _ c.loop-node.invariant c.in-None.ensures

pub returns : goal.returns
returns g c =
    none_anywhere (g.R.Rules.context c.args.search.now.rules.now) (g.S.State.facts c.args.search.now.state.now)
    (λ x lt. c.loop-node.invariant x (omega (arith, lt, c.loop-node-test.false, c.count_of-node-end.ensures.count)))
