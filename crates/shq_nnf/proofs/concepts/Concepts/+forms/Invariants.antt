use Rattle.std.proofs.Common.{◌+◌, ◌*◌, take, map}
use Rattle.shq_meaning.specs.Concept.{parts_of}
use Rattle.shq_meaning.specs.Depth.{depth, depth_parts}
use Rattle.shq_nnf.specs.Bounds.{signed_form}
use Rattle.shq_nnf.specs.Numbers.{Extends, AreNumbers}
use Rattle.shq_nnf.proofs.concepts.Concepts.+forms.Given as goal

abbrev pub decreases-form : goal.decreases-form
decreases-form l = 4 * depth l.concept.now + 2

abbrev pub decreases-joined_form : goal.decreases-joined_form
decreases-joined_form l = 4 * depth_parts (parts_of l.parts.now) + 1

abbrev pub decreases-forms : goal.decreases-forms
decreases-forms l = 4 * depth_parts (parts_of l.concepts.now)

abbrev pub decreases-quantified_form : goal.decreases-quantified_form
decreases-quantified_form l = 4 * depth l.filler.now + 4

abbrev pub decreases-bounded_form : goal.decreases-bounded_form
decreases-bounded_form l = 4 * depth l.filler.now + 4

abbrev pub decreases-filler : goal.decreases-filler
decreases-filler l = 4 * depth l.filler.now + 3

abbrev pub invariant-forms-loop-concept : goal.invariant-forms-loop-concept
invariant-forms-loop-concept l = record {
  are : AreNumbers l.self l.numbers.items (map (signed_form l.negated) (take l.concept-index l.concepts));
  kept : Extends l.fn.self l.self;
}
