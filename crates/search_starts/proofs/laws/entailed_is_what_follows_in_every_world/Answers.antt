use Rattle.std.proofs.Common.{}
use Rattle.search_starts.proofs.Everywhere.{entailed_is_what_follows}
use Rattle.search_starts.proofs.laws.entailed_is_what_follows_in_every_world.Goals as goal

pub returns : goal.returns
returns g c = entailed_is_what_follows g.W.World.world
