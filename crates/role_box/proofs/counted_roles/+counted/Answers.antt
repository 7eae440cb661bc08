use Rattle.std.proofs.Common.{arith, ap}
use Rattle.shq_terms.specs.Depth.{depth}
use Rattle.shq_terms.proofs.Depth.{depth_at}
use Rattle.role_box.proofs.counted_roles.+counted.Goals as goal

pub all_count_simple-class_counts_simple-requires : goal.all_count_simple-class_counts_simple-requires
all_count_simple-class_counts_simple-requires t c =
    omega (
      arith,
      c.decreases,
      ap depth c.concept-item.is,
      depth_at c.args.concepts.now c.loop-concept.concept-index c.concept-item.result c.loop-concept-test.true,
    )
