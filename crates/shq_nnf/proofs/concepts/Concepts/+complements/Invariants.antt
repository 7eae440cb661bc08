use Rattle.std.proofs.Common.{◌+◌, ◌*◌, take, map}
use Rattle.calculus_specs.specs.Normal.{negated_form}
use Rattle.calculus_specs.specs.Tree.{tree_of}
use Rattle.shq_nnf.specs.Numbers.{Extends, AreNumbers}
use Rattle.shq_nnf.proofs.concepts.Concepts.+complements.Given as goal

abbrev pub decreases-complement_of : goal.decreases-complement_of
decreases-complement_of l = 3 * l.concept + 2

abbrev pub decreases-joined_complement : goal.decreases-joined_complement
decreases-joined_complement l = 3 * l.above + 1

abbrev pub decreases-complements : goal.decreases-complements
decreases-complements l = 3 * l.above

abbrev pub decreases-quantified_complement : goal.decreases-quantified_complement
decreases-quantified_complement l = 3 * l.filler + 3

abbrev pub invariant-complements-loop-part : goal.invariant-complements-loop-part
invariant-complements-loop-part l = record {
  are : AreNumbers l.self l.numbers.items (map (λ c. negated_form (tree_of l.fn.self c)) (take l.part-index l.parts));
  kept : Extends l.fn.self l.self;
}
