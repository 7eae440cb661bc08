use Rattle.std.proofs.Common.{arith, ap}
use Rattle.shq_terms.specs.Depth.{depth}
use Rattle.shq_terms.proofs.Depth.{depth_at}
use Rattle.edit_session.proofs.prints.+print.Goals as goal

pub with_parts-with_concept-all-requires : goal.with_parts-with_concept-all-requires
with_parts-with_concept-all-requires t c = (
  omega (
    arith,
    c.decreases,
    ap depth c.concept-item.is,
    depth_at c.args.concepts.now c.loop-concept.concept-index c.concept-item.result c.loop-concept-test.true,
  ),
  tt,
)
