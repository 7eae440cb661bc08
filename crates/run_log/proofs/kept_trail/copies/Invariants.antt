use Rattle.std.proofs.Common.{◌≡◌, map, take}
use Rattle.refutation_truth.specs.Shapes.{form_of_owned}
use Rattle.run_log.proofs.kept_trail.copies.Given as goal

abbrev pub invariant-loop-concept : goal.invariant-loop-concept
invariant-loop-concept l = map form_of_owned l.shapes.items ≡ take l.concept l.concepts
