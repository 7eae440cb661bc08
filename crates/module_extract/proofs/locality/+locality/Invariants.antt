use Rattle.std.proofs.Common.{◌≡◌, ◌+◌, ◌*◌, drop}
use Rattle.shq_terms.specs.Concept.{parts_of}
use Rattle.shq_terms.specs.Depth.{depth, depth_parts}
use Rattle.pinpointing_specs.specs.Local.{some_void, all_void, some_whole, all_whole}
use Rattle.module_extract.specs.Marks.{is_marked}
use Rattle.module_extract.proofs.locality.+locality.Given as goal

abbrev pub decreases-is_void : goal.decreases-is_void
decreases-is_void l = 2 * depth l.concept.now + 1

abbrev pub decreases-is_whole : goal.decreases-is_whole
decreases-is_whole l = 2 * depth l.concept.now + 1

abbrev pub decreases-some_void : goal.decreases-some_void
decreases-some_void l = 2 * depth_parts (parts_of l.concepts.now)

abbrev pub decreases-all_void : goal.decreases-all_void
decreases-all_void l = 2 * depth_parts (parts_of l.concepts.now)

abbrev pub decreases-some_whole : goal.decreases-some_whole
decreases-some_whole l = 2 * depth_parts (parts_of l.concepts.now)

abbrev pub decreases-all_whole : goal.decreases-all_whole
decreases-all_whole l = 2 * depth_parts (parts_of l.concepts.now)

abbrev pub invariant-some_void-loop-concept : goal.invariant-some_void-loop-concept
invariant-some_void-loop-concept l =
    some_void (is_marked l.marks) (parts_of l.concepts)
    ≡ some_void (is_marked l.marks) (parts_of (drop l.concept-index l.concepts))

abbrev pub invariant-all_void-loop-concept : goal.invariant-all_void-loop-concept
invariant-all_void-loop-concept l =
    all_void (is_marked l.marks) (parts_of l.concepts)
    ≡ all_void (is_marked l.marks) (parts_of (drop l.concept-index l.concepts))

abbrev pub invariant-some_whole-loop-concept : goal.invariant-some_whole-loop-concept
invariant-some_whole-loop-concept l =
    some_whole (is_marked l.marks) (parts_of l.concepts)
    ≡ some_whole (is_marked l.marks) (parts_of (drop l.concept-index l.concepts))

abbrev pub invariant-all_whole-loop-concept : goal.invariant-all_whole-loop-concept
invariant-all_whole-loop-concept l =
    all_whole (is_marked l.marks) (parts_of l.concepts)
    ≡ all_whole (is_marked l.marks) (parts_of (drop l.concept-index l.concepts))
