use Rattle.std.proofs.Common.{arith}
use Rattle.tableau_specs.specs.Steps.{below_of}
use Rattle.step_finders.proofs.Gathered.{put_none, put_all, put_more}
use Rattle.step_finders.proofs.counted.filled_successors.Goals as goal

pub loop-edge-init : goal.loop-edge-init
loop-edge-init g c =
    put_none (below_of (g.R.Rules.context c.args.search.now.rules.now)) (g.S.State.facts c.args.search.now.state.now)
    c.args.node c.args.role
    c.args.filler c.edges-edge-items.result.now c.new-found.result.items
    c.new-found.ensures.items

pub returns : goal.returns
returns g c =
    put_all (below_of (g.R.Rules.context c.args.search.now.rules.now)) (g.S.State.facts c.args.search.now.state.now)
    c.args.node c.args.role
    c.args.filler c.edges-edge-items.result.now c.loop-edge.found.items
    c.loop-edge.edge-index c.edges-edge-items.ensures (omega (arith, c.loop-edge-test.false)) c.loop-edge.invariant

pub loop-edge-preserved : goal.loop-edge-preserved
loop-edge-preserved g c =
    put_more (below_of (g.R.Rules.context c.args.search.now.rules.now)) (g.S.State.facts c.args.search.now.state.now)
    c.args.node c.args.role
    c.args.filler c.edges-edge-items.result.now c.loop-edge.edge-index (0, 0)
    c.loop-edge.found.items c.put.new.found.items c.is_counted-fits.result c.representative-end.result
    c.loop-edge.invariant (omega (arith, c.loop-edge-test.true)) c.is_counted-fits.ensures
    c.representative-end.ensures c.in_ok-put.ensures.distinct c.in_ok-put.ensures.members
