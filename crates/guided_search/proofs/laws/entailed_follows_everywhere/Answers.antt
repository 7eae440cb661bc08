use Rattle.std.proofs.Common.{}
use Rattle.guided_search.proofs.Everywhere.{entailed_follows}
use Rattle.guided_search.proofs.laws.entailed_follows_everywhere.Goals as goal

pub returns : goal.returns
returns g c = entailed_follows g.W.World.world
