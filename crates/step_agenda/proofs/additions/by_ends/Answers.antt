use Rattle.std.proofs.Common.{arith}
use Rattle.step_finders.proofs.Filed.{edge_is}
use Rattle.step_agenda.proofs.additions.by_ends.Goals as goal

pub find_by_edge-requires-clause-next : goal.find_by_edge-requires-clause-next
find_by_edge-requires-clause-next g c =
    edge_is (g.R.Rules.files c.args.search.now.rules.now) (g.S.State.facts c.args.search.now.state.now) c.args.from
    c.edges-edge-items.result.now c.loop-edge.edge-index (0, 0) c.representative.result c.edges-edge-items.ensures
    (omega (arith, c.loop-edge-test.true)) c.representative.ensures
