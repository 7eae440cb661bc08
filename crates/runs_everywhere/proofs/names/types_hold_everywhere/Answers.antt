use Rattle.std.proofs.Common.{}
use Rattle.runs_everywhere.proofs.Individuals.{types_hold}
use Rattle.runs_everywhere.proofs.names.types_hold_everywhere.Goals as goal

pub returns : goal.returns
returns g c = types_hold g.W.World.world
