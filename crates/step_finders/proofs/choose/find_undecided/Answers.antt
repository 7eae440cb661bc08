use Rattle.std.proofs.Common.{sym, arith, refl, ◌≡◌, true, ℕ}
use Rattle.tableau_specs.specs.Steps.{below_of}
use Rattle.step_finders.specs.Choosing.{IsDecided}
use Rattle.step_finders.proofs.Each.{each_more}
use Rattle.step_finders.proofs.Chosen.{undecided_at_end, all_decided}
use Rattle.step_finders.proofs.choose.find_undecided.Goals as goal
use Rattle.step_finders.proofs.choose.find_undecided.Goals.{else-is_below-via-then-is_below+else-not-is_decided}
use Rattle.step_finders.proofs.choose.find_undecided.Goals.{else-is_below-via-else-is_below}

pub returns-then-not-is_decided : goal.returns-then-not-is_decided
returns-then-not-is_decided g c =
    undecided_at_end (g.R.Rules.context c.args.search.now.rules.now) (g.S.State.facts c.args.search.now.state.now)
    c.args.node c.args.role
    c.args.filler c.edges-edge-items.result.now c.loop-edge.edge-index (0, 0) c.representative.result
    c.edges-edge-items.ensures (omega (arith, c.loop-edge-test.true)) (sym c.if-is_below.ensures)
    (c.if-not-is_decided.ensures.no refl) c.representative.ensures

pub loop-edge-preserved : goal.loop-edge-preserved
loop-edge-preserved g c =
    each_more
    (λ (p : ℕ × ℕ). below_of (g.R.Rules.context c.args.search.now.rules.now) p.0 c.args.role ≡ true
    → IsDecided (g.R.Rules.context c.args.search.now.rules.now) (g.S.State.facts c.args.search.now.state.now) p.1
    c.args.filler)
    c.edges-edge-items.result.now c.loop-edge.edge-index (0, 0) c.loop-edge.invariant
    (omega (arith, c.loop-edge-test.true))
    (elim c.else-is_below.branch [
      | else-is_below-via-then-is_below+else-not-is_decided w ↦ λ hit. w.if-not-is_decided.ensures.yes refl
      | else-is_below-via-else-is_below w ↦ λ hit. (let k = w.if-is_below.ensures in cc)
    ])

pub returns : goal.returns
returns g c =
    all_decided (g.R.Rules.context c.args.search.now.rules.now) (g.S.State.facts c.args.search.now.state.now)
    c.args.node c.args.role
    c.args.filler c.edges-edge-items.result.now c.edges-edge-items.ensures
    (λ k d lt hit. c.loop-edge.invariant k d (omega (arith, lt, c.loop-edge-test.false)) hit)
