use Rattle.std.proofs.Common.{sym, arith}
use Rattle.step_finders.proofs.Edges.{all_ends_have, lacks_at_end}
use Rattle.step_finders.proofs.parts.find_end.Goals as goal

pub returns-then-not-has : goal.returns-then-not-has
returns-then-not-has g c =
    lacks_at_end (g.R.Rules.context c.args.search.now.rules.now) (g.S.State.facts c.args.search.now.state.now)
    c.args.node c.args.role
    c.args.filler c.edges-edge-items.result.now c.loop-edge.edge-index (0, 0) c.representative.result
    c.edges-edge-items.ensures (omega (arith, c.loop-edge-test.true)) (sym c.if-is_below.ensures)
    (sym c.if-not-has.ensures) c.representative.ensures

pub returns : goal.returns
returns g c =
    all_ends_have (g.R.Rules.context c.args.search.now.rules.now) (g.S.State.facts c.args.search.now.state.now)
    c.args.node c.args.role
    c.args.filler c.edges-edge-items.result.now
    c.edges-edge-items.ensures (λ k d lt hit. c.loop-edge.invariant k d (omega (arith, lt, c.loop-edge-test.false)) hit)
