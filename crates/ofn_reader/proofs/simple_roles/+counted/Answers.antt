use Rattle.std.proofs.Common.{arith, ap}
use Rattle.shq_terms.specs.Depth.{depth}
use Rattle.shq_terms.proofs.Depth.{depth_at}
use Rattle.ofn_reader.proofs.simple_roles.+counted.Goals as goal

pub classes_count_simple-class_counts_simple-requires : goal.classes_count_simple-class_counts_simple-requires
classes_count_simple-class_counts_simple-requires t c =
    omega (
      arith,
      c.decreases,
      ap depth c.class-item.is,
      depth_at c.args.classes.now c.loop-class.class-index c.class-item.result c.loop-class-test.true,
    )
