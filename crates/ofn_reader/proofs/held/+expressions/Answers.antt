use Rattle.std.proofs.Common.{arith, ap}
use Rattle.shq_terms.specs.Depth.{depth}
use Rattle.shq_terms.proofs.Depth.{depth_at}
use Rattle.ofn_reader.proofs.held.+expressions.Goals as goal

pub room_behind_all-room_behind-left-requires : goal.room_behind_all-room_behind-left-requires
room_behind_all-room_behind-left-requires t c =
    omega (
      arith,
      c.decreases,
      ap depth c.class-item.is,
      depth_at c.args.classes.now c.loop-class.class-index c.class-item.result c.loop-class-test.true,
    )
