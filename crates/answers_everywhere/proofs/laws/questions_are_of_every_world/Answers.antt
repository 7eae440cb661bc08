use Rattle.std.proofs.Common.{}
use Rattle.answers_everywhere.proofs.Everywhere.{questions}
use Rattle.answers_everywhere.proofs.laws.questions_are_of_every_world.Goals as goal

pub returns : goal.returns
returns g c = questions g.W.World.world
