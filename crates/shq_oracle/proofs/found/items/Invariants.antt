use Rattle.std.proofs.Common.{◌≡◌, take}
use Rattle.model_builder.specs.Trail.{items_of}
use Rattle.shq_oracle.proofs.found.items.Given as goal

abbrev pub invariant-loop-place : goal.invariant-loop-place
invariant-loop-place g l = l.items.items ≡ take l.place (items_of l.tree.entries)
