use Rattle.std.proofs.Common.{◌≡◌, ◌+◌, ◌*◌, drop}
use Rattle.shq_terms.specs.Concept.{parts_of}
use Rattle.shq_terms.specs.Depth.{depth, depth_parts}
use Rattle.role_box.specs.Counted.{counted_in}
use Rattle.role_box.specs.Simple.{are_simple}
use Rattle.role_box.proofs.counted_roles.+counted.Given as goal

abbrev pub decreases-class_counts_simple : goal.decreases-class_counts_simple
decreases-class_counts_simple l = 2 * depth l.concept.now + 1

abbrev pub decreases-all_count_simple : goal.decreases-all_count_simple
decreases-all_count_simple l = 2 * depth_parts (parts_of l.concepts.now)

abbrev pub invariant-all_count_simple-loop-concept : goal.invariant-all_count_simple-loop-concept
invariant-all_count_simple-loop-concept l =
    are_simple l.roles (counted_in (parts_of l.concepts))
    ≡ are_simple l.roles (counted_in (parts_of (drop l.concept-index l.concepts)))
