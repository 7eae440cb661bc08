use Rattle.std.proofs.Common.{ap, arith}
use Rattle.shq_terms.specs.Depth.{depth}
use Rattle.shq_terms.proofs.Depth.{depth_at}
use Rattle.module_extract.proofs.locality.+locality.Goals as goal

pub some_void-is_void-requires : goal.some_void-is_void-requires
some_void-is_void-requires t c =
    omega (
      arith,
      c.decreases,
      ap depth c.concept-item.is,
      depth_at c.args.concepts.now c.loop-concept.concept-index c.concept-item.result c.loop-concept-test.true,
    )

pub all_void-is_void-requires : goal.all_void-is_void-requires
all_void-is_void-requires t c =
    omega (
      arith,
      c.decreases,
      ap depth c.concept-item.is,
      depth_at c.args.concepts.now c.loop-concept.concept-index c.concept-item.result c.loop-concept-test.true,
    )

pub some_whole-is_whole-requires : goal.some_whole-is_whole-requires
some_whole-is_whole-requires t c =
    omega (
      arith,
      c.decreases,
      ap depth c.concept-item.is,
      depth_at c.args.concepts.now c.loop-concept.concept-index c.concept-item.result c.loop-concept-test.true,
    )

pub all_whole-is_whole-requires : goal.all_whole-is_whole-requires
all_whole-is_whole-requires t c =
    omega (
      arith,
      c.decreases,
      ap depth c.concept-item.is,
      depth_at c.args.concepts.now c.loop-concept.concept-index c.concept-item.result c.loop-concept-test.true,
    )
