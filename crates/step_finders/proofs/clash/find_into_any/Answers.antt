use Rattle.std.proofs.Common.{arith}
use Rattle.step_finders.specs.Clashing.{NoneInto}
use Rattle.step_finders.proofs.Each.{each_more}
use Rattle.step_finders.proofs.clash.find_into_any.Goals as goal

pub loop-node-preserved : goal.loop-node-preserved
loop-node-preserved g c =
    let w = g.R.Rules.context c.args.search.now.rules.now in
    let fs = g.S.State.facts c.args.search.now.state.now in (
      each_more (NoneInto w fs c.args.filler) c.args.nodes.now c.loop-node.node-index 0 c.loop-node.invariant.0
          (omega (arith, c.loop-node-test.true)) c.in-Ok.ensures.none,
      c.in-Ok.ensures.last,
    )
