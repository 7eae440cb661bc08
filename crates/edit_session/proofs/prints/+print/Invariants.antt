use Rattle.std.proofs.Common.{◌≡◌, ◌+◌, ◌*◌, drop}
use Rattle.shq_terms.specs.Concept.{parts_of}
use Rattle.shq_terms.specs.Depth.{depth, depth_parts}
use Rattle.edit_session.specs.Prints.{mixed, with_parts}
use Rattle.edit_session.proofs.prints.+print.Given as goal

abbrev pub decreases-with_concept : goal.decreases-with_concept
decreases-with_concept l = 2 * depth l.concept.now + 1

abbrev pub decreases-with_parts : goal.decreases-with_parts
decreases-with_parts l = 2 * depth_parts (parts_of l.concepts.now)

abbrev pub invariant-with_parts-loop-concept : goal.invariant-with_parts-loop-concept
invariant-with_parts-loop-concept l =
    with_parts l.all (parts_of (drop l.concept-index l.concepts))
    ≡ with_parts (mixed l.fn.print l.fn.kind) (parts_of l.fn.concepts)
