use Rattle.std.proofs.Common.{◌&&◌, refl, arith, get_or}
use Rattle.calculus_specs.specs.State.{has}
use Rattle.tableau_specs.specs.Steps.{below_of}
use Rattle.step_finders.proofs.Later.{is_seen, seen_more, seen_all, next_is, next_is_later, next_is_node}
use Rattle.step_finders.proofs.overrun.next_filled.Goals as goal

pub loop-edge-preserved : goal.loop-edge-preserved
loop-edge-preserved g c =
    let below = below_of (g.R.Rules.context c.args.search.now.rules.now) in
    let fs = g.S.State.facts c.args.search.now.state.now in
    let edges = c.edges-edge-items.result.now in
    let p = get_or edges c.loop-edge.edge-index (0, 0) in
    let counted = below p.0 c.args.role && has fs p.1 c.args.filler in
    seen_more (g.R.Rules.context c.args.search.now.rules.now).first below fs c.args.node c.args.role c.args.filler edges
    c.args.from c.loop-edge.edge-index (0, 0) counted c.representative-end.result
    (omega (arith, c.loop-edge-test.true)) refl c.representative-end.ensures c.lesser-least.result
    (c.lesser-least.ensures
    (is_seen (g.R.Rules.context c.args.search.now.rules.now).first below fs c.args.node c.args.role c.args.filler edges
    c.args.from
    c.loop-edge.edge-index)
    c.loop-edge.invariant)

pub returns-clause-next : goal.returns-clause-next
returns-clause-next g c =
    let below = below_of (g.R.Rules.context c.args.search.now.rules.now) in
    let fs = g.S.State.facts c.args.search.now.state.now in
    next_is (g.R.Rules.context c.args.search.now.rules.now).first below fs c.args.node c.args.role c.args.filler
    c.args.from
    c.loop-edge.least
    (seen_all (g.R.Rules.context c.args.search.now.rules.now).first below fs c.args.node c.args.role c.args.filler
    c.edges-edge-items.result.now c.edges-edge-items.ensures c.args.from c.loop-edge.edge-index
    (omega (arith, c.loop-edge-test.false)) c.loop-edge.least c.loop-edge.invariant)

pub returns-clause-later : goal.returns-clause-later
returns-clause-later g c =
    let below = below_of (g.R.Rules.context c.args.search.now.rules.now) in
    let fs = g.S.State.facts c.args.search.now.state.now in
    next_is_later (g.R.Rules.context c.args.search.now.rules.now).first below fs c.args.node c.args.role c.args.filler
    c.args.from
    c.loop-edge.least
    (seen_all (g.R.Rules.context c.args.search.now.rules.now).first below fs c.args.node c.args.role c.args.filler
    c.edges-edge-items.result.now c.edges-edge-items.ensures c.args.from c.loop-edge.edge-index
    (omega (arith, c.loop-edge-test.false)) c.loop-edge.least c.loop-edge.invariant)

pub returns-clause-within : goal.returns-clause-within
returns-clause-within g c =
    let below = below_of (g.R.Rules.context c.args.search.now.rules.now) in
    let fs = g.S.State.facts c.args.search.now.state.now in
    next_is_node (g.R.Rules.context c.args.search.now.rules.now).first below fs c.args.node c.args.role c.args.filler
    c.args.from
    c.loop-edge.least
    (seen_all (g.R.Rules.context c.args.search.now.rules.now).first below fs c.args.node c.args.role c.args.filler
    c.edges-edge-items.result.now c.edges-edge-items.ensures c.args.from c.loop-edge.edge-index
    (omega (arith, c.loop-edge-test.false)) c.loop-edge.least c.loop-edge.invariant)
