use Rattle.std.proofs.Common.{ℕ, ◌∙◌, ◌&&◌, eqb, ap}
use Rattle.std.specs.List.{list_any}
use Rattle.calculus_specs.specs.Joins.{rep}
use Rattle.step_finders.proofs.Giving.{edges_say}
use Rattle.step_finders.proofs.give.has_edge.Goals as goal

pub loop-edge-init : goal.loop-edge-init
loop-edge-init g c =
    let fs = g.S.State.facts c.args.state.now in
    ap (λ (to : ℕ). list_any (λ p. eqb p.0 c.args.role && eqb (rep fs p.1) to) c.edges-edge-items.result.now)
    c.representative-to.ensures
    ∙ edges_say (g.S.State.facts c.args.state.now) c.args.role c.args.begin c.args.end c.edges-edge-items.result.now
    c.edges-edge-items.ensures
