use Rattle.std.proofs.Common.{rules, arith, length, ap}
use Rattle.std.proofs.lemmas.Slice.Zip.{zip_turn}
use Rattle.shq_base.specs.Depth.{depth}
use Rattle.shq_base.proofs.Depth.{depth_at}
use Rattle.shq_terms.proofs.+same.Goals as goal

pub equality::are_same-is_same-requires : goal.equality::are_same-is_same-requires
equality::are_same-is_same-requires t c =
    let turn =
    zip_turn c.args.concepts.now c.args.others.now c.loop-concept.yielded _ _ c.next.new.self _ (search rules)
    (search rules) c.loop-concept.yielded_by (c.in-Some.concept, c.in-Some.other) (search rules)
    c.next.ensures.steps in (
      omega (
        arith,
        c.decreases,
        ap depth (turn.2 c.in-Some.concept.now),
        depth_at c.args.concepts.now (length c.loop-concept.yielded) c.in-Some.concept.now turn.0,
      ),
      tt,
    )
