use Rattle.std.proofs.Common.{}
use Rattle.answers_everywhere.proofs.Everywhere.{instances}
use Rattle.answers_everywhere.proofs.laws.instances_are_of_every_world.Goals as goal

pub returns : goal.returns
returns g c = instances g.W.World.world
