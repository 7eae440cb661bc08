use Rattle.std.proofs.Common.{}
use Rattle.runs_everywhere.proofs.Decided.{accepted_holds}
use Rattle.runs_everywhere.proofs.verdicts.accepted_queries_follow_everywhere.Goals as goal

pub returns : goal.returns
returns g c = accepted_holds g.W.World.world
