use Rattle.std.proofs.Common.{◌≡◌, take}
use Rattle.std.specs.Prelude.{◌==◌}
use Rattle.std.specs.List.{list_any}
use Rattle.calculus_specs.specs.Joins.{rep}
use Rattle.fact_tree.proofs.tree.FactTree.names_apart.Given as goal

abbrev pub invariant-loop-other : goal.invariant-loop-other
invariant-loop-other g l = l.is_met ≡ list_any (λ z. rep l.self.facts z == l.root) (take l.other-index l.other-items)
