use Rattle.std.proofs.Common.{}
use Rattle.module_extract.proofs.Joined.{looked_more}
use Rattle.module_extract.proofs.growth.Growth.look_at_all.Goals as goal

pub loop-place-preserved : goal.loop-place-preserved
loop-place-preserved c =
    looked_more c.args.axioms.now c.args.self.now c.loop-place.self c.look_at.new.self c.args.places.now
    c.loop-place.place-index _ c.loop-place-test.true c.loop-place.invariant c.in_ok-look_at.ensures
