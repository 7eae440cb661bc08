use Rattle.std.proofs.Common.{}
use Rattle.runs_everywhere.proofs.Decided.{yes_holds}
use Rattle.runs_everywhere.proofs.verdicts.a_yes_follows_everywhere.Goals as goal

pub returns : goal.returns
returns g c = yes_holds g.W.World.world
