use Rattle.std.proofs.Common.{◌∙◌, sym, arith}
use Rattle.step_finders.proofs.Chosen.{role_at, no_role}
use Rattle.step_finders.proofs.choose.role_to.Goals as goal

pub returns-then-representative-end : goal.returns-then-representative-end
returns-then-representative-end g c =
    role_at (g.R.Rules.context c.args.search.now.rules.now) (g.S.State.facts c.args.search.now.state.now) c.args.node
    c.args.role 0
    c.edges-edge-items.result.now c.loop-edge.edge-index (0, 0) c.args.end
    c.edges-edge-items.ensures (omega (arith, c.loop-edge-test.true)) (sym c.if-is_below.ensures)
    (sym c.representative.ensures ∙ c.if-representative-end.true)

pub returns : goal.returns
returns g c =
    no_role (g.R.Rules.context c.args.search.now.rules.now) (g.S.State.facts c.args.search.now.state.now) c.args.node
    c.args.role 0
    c.edges-edge-items.result.now c.args.end c.edges-edge-items.ensures
    (λ k d lt hit. c.loop-edge.invariant k d (omega (arith, lt, c.loop-edge-test.false)) hit)
