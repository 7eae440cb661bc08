use Rattle.std.proofs.Common.{◌≡◌, ◌+◌, ◌-◌, ◌*◌, drop}
use Rattle.shq_terms.specs.Concept.{parts_of}
use Rattle.shq_terms.specs.Depth.{depth, depth_parts}
use Rattle.ofn_reader.specs.Held.{all_expressions}
use Rattle.ofn_reader.proofs.held.+expressions.Given as goal

abbrev pub decreases-room_behind : goal.decreases-room_behind
decreases-room_behind l = 2 * depth l.class.now + 1

abbrev pub decreases-room_behind_all : goal.decreases-room_behind_all
decreases-room_behind_all l = 2 * depth_parts (parts_of l.classes.now)

abbrev pub invariant-room_behind_all-loop-class : goal.invariant-room_behind_all-loop-class
invariant-room_behind_all-loop-class l =
    l.left - all_expressions (parts_of (drop l.class-index l.classes)) ≡ l.room - all_expressions (parts_of l.classes)
