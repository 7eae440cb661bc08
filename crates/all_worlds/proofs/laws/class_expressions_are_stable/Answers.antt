use Rattle.std.proofs.Common.{}
use Rattle.all_worlds.proofs.Stable.{stable}
use Rattle.all_worlds.proofs.laws.class_expressions_are_stable.Goals as goal

pub returns : goal.returns
returns g c = stable g.W.World.world
