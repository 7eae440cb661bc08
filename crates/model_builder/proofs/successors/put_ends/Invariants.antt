use Rattle.std.proofs.Common.{◌≡◌, ℕ, ◌||◌, take}
use Rattle.model_builder.specs.Structure.{leads}
use Rattle.model_builder.specs.Walks.{is_end}
use Rattle.model_builder.proofs.successors.put_ends.Given as goal

abbrev pub invariant-loop-edge : goal.invariant-loop-edge
invariant-loop-edge l = (x y : ℕ)
    → is_end l.next x y ≡ (is_end l.initial.next x y || leads l.roles (take l.edge-index l.edges) l.role x y)
