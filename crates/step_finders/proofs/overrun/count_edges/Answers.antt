use Rattle.std.proofs.Common.{◌≡◌, ℕ, ◌≤◌, ◌&&◌, ◌∙◌, ap, sym, subst, arith, length}
use Rattle.std.specs.List.{count_by}
use Rattle.std.proofs.lemmas.List.{take_all}
use Rattle.calculus_specs.specs.State.{has}
use Rattle.tableau_specs.specs.Clash.{filled_successors}
use Rattle.tableau_specs.specs.Steps.{below_of}
use Rattle.step_finders.proofs.Later.{no_more_than_edges}
use Rattle.step_finders.proofs.overrun.count_edges.Goals as goal

pub returns : goal.returns
returns g c =
    let below = below_of (g.R.Rules.context c.args.search.now.rules.now) in
    let fs = g.S.State.facts c.args.search.now.state.now in
    let edges = c.edges-edge-items.result.now in
    let all : c.loop-edge.count ≡ count_by (λ p. below p.0 c.args.role && has fs p.1 c.args.filler) edges =
    c.loop-edge.invariant.0
    ∙ ap (count_by (λ p. below p.0 c.args.role && has fs p.1 c.args.filler))
    (take_all c.loop-edge.edge-index edges (omega (arith, c.loop-edge-test.false))) in
    subst (λ (n : ℕ). length
    (filled_successors (g.R.Rules.context c.args.search.now.rules.now).first below fs c.args.node c.args.role
    c.args.filler)
    ≤ n)
    (sym all)
    (no_more_than_edges (g.R.Rules.context c.args.search.now.rules.now).first below fs c.args.node c.args.role
    c.args.filler edges
    c.edges-edge-items.ensures)
