use Rattle.std.proofs.Common.{}
use Rattle.runs_everywhere.proofs.Individuals.{reasons_hold}
use Rattle.runs_everywhere.proofs.names.reasons_hold_everywhere.Goals as goal

pub returns : goal.returns
returns g c = reasons_hold g.W.World.world
