use Rattle.std.proofs.Common.{arith, sym}
use Rattle.step_finders.proofs.Making.{filler_at_end, none_filled}
use Rattle.step_finders.proofs.make.has_filler.Goals as goal

pub returns-then-has-clause-yes : goal.returns-then-has-clause-yes
returns-then-has-clause-yes g c = λ yes'.
    filler_at_end (g.R.Rules.context c.args.search.now.rules.now) (g.S.State.facts c.args.search.now.state.now)
    c.args.node c.args.role
    c.args.filler c.edges-edge-items.result.now c.loop-edge.edge-index (0, 0)
    c.edges-edge-items.ensures (omega (arith, c.loop-edge-test.true)) (sym c.if-is_below.ensures) (sym c.if-has.ensures)

pub returns-clause-no : goal.returns-clause-no
returns-clause-no g c = λ no'.
    none_filled (g.R.Rules.context c.args.search.now.rules.now) (g.S.State.facts c.args.search.now.state.now)
    c.args.node c.args.role
    c.args.filler c.edges-edge-items.result.now c.edges-edge-items.ensures
    (λ k d lt hit. c.loop-edge.invariant k d (omega (arith, lt, c.loop-edge-test.false)) hit)
