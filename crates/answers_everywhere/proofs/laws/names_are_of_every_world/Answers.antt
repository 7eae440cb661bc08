use Rattle.std.proofs.Common.{}
use Rattle.answers_everywhere.proofs.Everywhere.{names}
use Rattle.answers_everywhere.proofs.laws.names_are_of_every_world.Goals as goal

pub returns : goal.returns
returns g c = names g.W.World.world
