use Rattle.std.proofs.Common.{◌≡◌, ◌&&◌, eqb, drop}
use Rattle.std.specs.List.{list_any}
use Rattle.calculus_specs.specs.Joins.{rep}
use Rattle.calculus_specs.specs.State.{has_edge as leads}
use Rattle.step_finders.proofs.give.has_edge.Given as goal

abbrev pub invariant-loop-edge : goal.invariant-loop-edge
invariant-loop-edge g l =
    list_any (λ p. eqb p.0 l.role && eqb (rep (g.S.State.facts l.state) p.1) l.to) (drop l.edge-index l.edge-items)
    ≡ leads (g.S.State.facts l.state) (λ r. eqb r l.role) l.begin l.end
