use Rattle.std.proofs.Common.{◌≡◌, ◌*◌, ◌+◌, ◌++◌, drop, length, true}
use Rattle.shq_terms.specs.Concept.{parts_of}
use Rattle.shq_terms.specs.Depth.{depth, depth_parts}
use Rattle.shq_terms.specs.Uses.{parts_use_listed}
use Rattle.ofn_writer.specs.Canonical.{spaced, part_texts}
use Rattle.ofn_writer.proofs.concepts.+concepts.Given as goal

abbrev pub decreases-put_concept : goal.decreases-put_concept
decreases-put_concept l = 4 * depth l.concept.now + 4

abbrev pub decreases-put_complement : goal.decreases-put_complement
decreases-put_complement l = 4 * depth l.inner.now + 5

abbrev pub decreases-put_restriction : goal.decreases-put_restriction
decreases-put_restriction l = 4 * depth l.filler.now + 6

abbrev pub decreases-put_cardinality : goal.decreases-put_cardinality
decreases-put_cardinality l = 4 * depth l.filler.now + 6

abbrev pub decreases-put_role_and_filler : goal.decreases-put_role_and_filler
decreases-put_role_and_filler l = 4 * depth l.filler.now + 5

abbrev pub decreases-put_parts : goal.decreases-put_parts
decreases-put_parts l = 4 * depth_parts (parts_of l.parts.now) + 3

abbrev pub decreases-put_items : goal.decreases-put_items
decreases-put_items l = 4 * depth_parts (parts_of l.parts.now) + 2

abbrev pub decreases-put_spaced : goal.decreases-put_spaced
decreases-put_spaced l = 4 * depth_parts (parts_of l.parts.now) + 1

abbrev pub invariant-put_spaced-loop-part : goal.invariant-put_spaced-loop-part
invariant-put_spaced-loop-part l = record {
  put : l.out.items ++ spaced (part_texts l.ontology (parts_of (drop l.part-index l.parts)))
      ≡ l.fn.out.items ++ spaced (part_texts l.ontology (parts_of l.parts));
  listed : parts_use_listed (length l.ontology.classes) (length l.ontology.roles) (parts_of (drop l.part-index l.parts))
      ≡ true;
}
