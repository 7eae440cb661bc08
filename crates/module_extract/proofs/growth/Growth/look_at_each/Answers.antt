use Rattle.std.proofs.Common.{◌∙◌}
use Rattle.module_extract.proofs.Joined.{first_more}
use Rattle.module_extract.proofs.growth.Growth.look_at_each.Goals as goal

pub loop-place-preserved : goal.loop-place-preserved
loop-place-preserved c = record {
  growing = λ q h. c.in_ok-look_at.ensures.growing q (c.loop-place.invariant.growing q h);
  limit = c.in_ok-look_at.ensures.limit ∙ c.loop-place.invariant.limit;
  settled =
      first_more c.args.axioms.now c.loop-place.place c.loop-place.self c.look_at.new.self
      c.loop-place.invariant.settled c.in_ok-look_at.ensures;
}
