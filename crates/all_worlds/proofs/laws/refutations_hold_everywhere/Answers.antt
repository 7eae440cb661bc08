use Rattle.std.proofs.Common.{}
use Rattle.all_worlds.proofs.Refuted.{refuted_holds}
use Rattle.all_worlds.proofs.laws.refutations_hold_everywhere.Goals as goal

pub returns : goal.returns
returns g c = refuted_holds g.W.World.world
