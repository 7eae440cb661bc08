use Rattle.std.proofs.Common.{◌∙◌}
use Rattle.module_extract.proofs.Taken.{taken_more}
use Rattle.module_extract.proofs.growth.Growth.take_all.Goals as goal

pub loop-name-preserved : goal.loop-name-preserved
loop-name-preserved c = (
  taken_more _ _ _ _ _ _ c.args.names.now c.loop-name.name-index _ c.loop-name-test.true c.loop-name.invariant.0
      c.in_ok-take.ensures.taken,
  c.in_ok-take.ensures.members ∙ c.loop-name.invariant.1,
)
