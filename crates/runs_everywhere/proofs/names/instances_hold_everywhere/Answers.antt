use Rattle.std.proofs.Common.{}
use Rattle.runs_everywhere.proofs.Individuals.{instances_hold}
use Rattle.runs_everywhere.proofs.names.instances_hold_everywhere.Goals as goal

pub returns : goal.returns
returns g c = instances_hold g.W.World.world
