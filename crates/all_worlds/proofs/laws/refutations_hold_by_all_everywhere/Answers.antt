use Rattle.std.proofs.Common.{}
use Rattle.all_worlds.proofs.Refuted.{refuted_holds_by_all}
use Rattle.all_worlds.proofs.laws.refutations_hold_by_all_everywhere.Goals as goal

pub returns : goal.returns
returns g c = refuted_holds_by_all g.W.World.world
