use Rattle.std.proofs.Common.{◌≡◌, ◌+◌, ◌*◌, length, take}
use Rattle.shq_base.specs.Concept.{parts_of}
use Rattle.shq_base.specs.Depth.{depth, depth_parts}
use Rattle.shq_terms.proofs.+same.Given as goal

abbrev pub decreases-concept::Concept::is_same : goal.decreases-concept::Concept::is_same
decreases-concept::Concept::is_same l = 2 * depth l.self.now + 1

abbrev pub decreases-equality::are_same : goal.decreases-equality::are_same
decreases-equality::are_same l = 2 * depth_parts (parts_of l.concepts.now)

abbrev pub invariant-equality::are_same-loop-concept : goal.invariant-equality::are_same-loop-concept
invariant-equality::are_same-loop-concept l = take (length l.yielded) l.concepts ≡ take (length l.yielded) l.others
