use Rattle.std.proofs.Common.{◌≡◌, ◌+◌, ◌*◌, ◌++◌, drop}
use Rattle.shq_terms.specs.Concept.{parts_of}
use Rattle.shq_terms.specs.Depth.{depth, depth_parts}
use Rattle.pinpointing_specs.specs.Signature.{parts_names}
use Rattle.module_extract.proofs.names.+names.Given as goal

abbrev pub decreases-push_concept : goal.decreases-push_concept
decreases-push_concept l = 2 * depth l.concept.now + 1

abbrev pub decreases-push_restriction : goal.decreases-push_restriction
decreases-push_restriction l = 2 * depth l.filler.now + 2

abbrev pub decreases-push_concepts : goal.decreases-push_concepts
decreases-push_concepts l = 2 * depth_parts (parts_of l.concepts.now)

abbrev pub invariant-push_concepts-loop-concept : goal.invariant-push_concepts-loop-concept
invariant-push_concepts-loop-concept l =
    l.names.items ++ parts_names (parts_of (drop l.concept-index l.concepts))
    ≡ l.initial.names.items ++ parts_names (parts_of l.concepts)
