use Rattle.std.proofs.Common.{}
use Rattle.runs_everywhere.proofs.Told.{sessions_hold}
use Rattle.runs_everywhere.proofs.verdicts.sessions_hold_everywhere.Goals as goal

pub returns : goal.returns
returns g c = sessions_hold g.W.World.world
