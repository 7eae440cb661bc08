use Rattle.std.proofs.Common.{◌+◌, ◌*◌, take}
use Rattle.shq_terms.specs.Concept.{parts_of}
use Rattle.shq_terms.specs.Depth.{depth, depth_parts}
use Rattle.shq_meaning.specs.Truth.{hold_all, hold_any}
use Rattle.finite_model.specs.ModelLists.{meaning}
use Rattle.finite_model.specs.Next.{IsNext, IsNextAt}
use Rattle.finite_model.proofs.interp.Interp.+candidates.Given as goal

abbrev pub decreases-next_candidate : goal.decreases-next_candidate
decreases-next_candidate l = 2 * depth l.concept.now + 1

abbrev pub decreases-next_in_all : goal.decreases-next_in_all
decreases-next_in_all l = 2 * depth_parts (parts_of l.parts.now)

abbrev pub decreases-next_in_any : goal.decreases-next_in_any
decreases-next_in_any l = 2 * depth_parts (parts_of l.parts.now)

abbrev pub invariant-next_in_all-loop-part : goal.invariant-next_in_all-loop-part
invariant-next_in_all-loop-part l = IsNextAt l.self.size l.from (hold_all (meaning l.self) (parts_of l.parts)) l.next

abbrev pub invariant-next_in_any-loop-part : goal.invariant-next_in_any-loop-part
invariant-next_in_any-loop-part l =
    IsNext l.self.size l.from (hold_any (meaning l.self) (parts_of (take l.part-index l.parts))) l.next
