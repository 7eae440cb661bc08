use Rattle.std.proofs.Common.{◌≡◌, drop}
use Rattle.std.specs.List.{list_all}
use Rattle.calculus_specs.specs.State.{has as holds}
use Rattle.step_agenda.proofs.additions.has_all.Given as goal

abbrev pub invariant-loop-concept : goal.invariant-loop-concept
invariant-loop-concept g l =
    list_all (holds (g.S.State.facts l.state) l.node) (drop l.concept-index l.concepts)
    ≡ list_all (holds (g.S.State.facts l.state) l.node) l.concepts
