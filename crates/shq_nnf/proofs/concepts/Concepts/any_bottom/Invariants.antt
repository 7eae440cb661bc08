use Rattle.std.proofs.Common.{◌≡◌, take}
use Rattle.std.specs.List.{list_any}
use Rattle.calculus_specs.specs.Shape.{shape_of}
use Rattle.shq_nnf.specs.Opened.{is_bottom_shape}
use Rattle.shq_nnf.proofs.concepts.Concepts.any_bottom.Given as goal

abbrev pub invariant-loop-member : goal.invariant-loop-member
invariant-loop-member l = l.found ≡ list_any (λ c. is_bottom_shape (shape_of l.self c)) (take l.member-index l.members)
