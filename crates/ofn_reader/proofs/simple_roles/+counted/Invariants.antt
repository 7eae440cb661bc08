use Rattle.std.proofs.Common.{◌≡◌, ◌+◌, ◌*◌, drop}
use Rattle.shq_terms.specs.Concept.{parts_of}
use Rattle.shq_terms.specs.Depth.{depth, depth_parts}
use Rattle.role_box.specs.Counted.{counted_in}
use Rattle.role_box.specs.Simple.{are_simple}
use Rattle.ofn_reader.proofs.simple_roles.+counted.Given as goal

abbrev pub decreases-class_counts_simple : goal.decreases-class_counts_simple
decreases-class_counts_simple l = 2 * depth l.class.now + 1

abbrev pub decreases-classes_count_simple : goal.decreases-classes_count_simple
decreases-classes_count_simple l = 2 * depth_parts (parts_of l.classes.now)

abbrev pub invariant-classes_count_simple-loop-class : goal.invariant-classes_count_simple-loop-class
invariant-classes_count_simple-loop-class l =
    are_simple l.roles (counted_in (parts_of l.classes))
    ≡ are_simple l.roles (counted_in (parts_of (drop l.class-index l.classes)))
