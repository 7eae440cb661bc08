use Rattle.std.proofs.Common.{◌≡◌, false, take}
use Rattle.std.specs.List.{list_any}
use Rattle.calculus_specs.specs.Joins.{rep}
use Rattle.fact_tree.specs.Told.{gives}
use Rattle.fact_tree.proofs.tree.FactTree.first_ground.Given as goal

abbrev pub invariant-loop-place : goal.invariant-loop-place
invariant-loop-place g l = list_any (gives (rep l.self.facts) l.asked) (take l.place l.self.facts) ≡ false
