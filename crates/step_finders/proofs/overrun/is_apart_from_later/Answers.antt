use Rattle.std.proofs.Common.{◌≡◌, ℕ, ◌<◌, ◌&&◌, true, false, sym, subst, arith, get_or}
use Rattle.calculus_specs.specs.Joins.{rep}
use Rattle.calculus_specs.specs.State.{has, node_count_from, are_apart}
use Rattle.tableau_specs.specs.Steps.{below_of}
use Rattle.step_finders.proofs.Each.{each_more}
use Rattle.step_finders.proofs.Later.{end_is_node, one_is_not_apart, all_are_apart}
use Rattle.step_finders.proofs.overrun.is_apart_from_later.Goals as goal

pub is_passed-requires-clause-end : goal.is_passed-requires-clause-end
is_passed-requires-clause-end g c = λ counts.
    let below = below_of (g.R.Rules.context c.args.search.now.rules.now) in
    let fs = g.S.State.facts c.args.search.now.state.now in
    let node : rep fs (get_or c.edges-edge-items.result.now c.loop-edge.edge-index (0, 0)).1
    < node_count_from (g.R.Rules.context c.args.search.now.rules.now).first fs =
    end_is_node (g.R.Rules.context c.args.search.now.rules.now).first below fs c.args.node c.args.role c.args.filler
    c.edges-edge-items.result.now c.edges-edge-items.ensures c.loop-edge.edge-index (0, 0)
    (omega (arith, c.loop-edge-test.true)) counts in
    subst (λ (z : ℕ). z < node_count_from (g.R.Rules.context c.args.search.now.rules.now).first fs)
    (sym c.representative-end.ensures) node

pub returns-then-not-is_passed : goal.returns-then-not-is_passed
returns-then-not-is_passed g c =
    let below = below_of (g.R.Rules.context c.args.search.now.rules.now) in
    let fs = g.S.State.facts c.args.search.now.state.now in
    let is = c.representative-end.ensures in
    sym (one_is_not_apart (g.R.Rules.context c.args.search.now.rules.now).first below fs c.args.node c.args.role
    c.args.filler
    c.edges-edge-items.result.now c.edges-edge-items.ensures c.args.first c.loop-edge.edge-index (0, 0)
    (omega (arith, c.loop-edge-test.true))
    (c.is_passed.ensures.no_counted c.if-not-is_passed.true)
    (subst (λ (z : ℕ). c.args.first < z) is (c.is_passed.ensures.no_later c.if-not-is_passed.true))
    (subst (λ (z : ℕ). are_apart fs c.args.first z ≡ false) is (c.is_passed.ensures.no_apart c.if-not-is_passed.true)))

pub loop-edge-preserved : goal.loop-edge-preserved
loop-edge-preserved g c =
    let below = below_of (g.R.Rules.context c.args.search.now.rules.now) in
    let fs = g.S.State.facts c.args.search.now.state.now in
    each_more
    (λ (p : ℕ × ℕ). (below p.0 c.args.role && has fs p.1 c.args.filler) ≡ true → c.args.first < rep fs p.1
    → are_apart fs c.args.first (rep fs p.1) ≡ true)
    c.edges-edge-items.result.now c.loop-edge.edge-index (0, 0) c.loop-edge.invariant
    (omega (arith, c.loop-edge-test.true))
    (λ counts later.
    let is = c.representative-end.ensures in
    subst (λ (z : ℕ). are_apart fs c.args.first z ≡ true) is
    (c.is_passed.ensures.yes c.if-not-is_passed.false counts (subst (λ (z : ℕ). c.args.first < z) (sym is) later)))

pub returns : goal.returns
returns g c =
    let below = below_of (g.R.Rules.context c.args.search.now.rules.now) in
    let fs = g.S.State.facts c.args.search.now.state.now in
    sym (all_are_apart (g.R.Rules.context c.args.search.now.rules.now).first below fs c.args.node c.args.role
    c.args.filler
    c.edges-edge-items.result.now c.edges-edge-items.ensures c.args.first
    (λ k d lt. c.loop-edge.invariant k d (omega (arith, lt, c.loop-edge-test.false))))
