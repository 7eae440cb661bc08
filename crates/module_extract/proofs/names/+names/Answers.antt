use Rattle.std.proofs.Common.{ap, arith}
use Rattle.shq_terms.specs.Depth.{depth}
use Rattle.shq_terms.proofs.Depth.{depth_at}
use Rattle.module_extract.proofs.names.+names.Goals as goal

pub push_concepts-push_concept-requires : goal.push_concepts-push_concept-requires
push_concepts-push_concept-requires t c =
    omega (
      arith,
      c.decreases,
      ap depth c.concept-item.is,
      depth_at c.args.concepts.now c.loop-concept.concept-index c.concept-item.result c.loop-concept-test.true,
    )
