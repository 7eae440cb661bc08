use Rattle.std.proofs.Common.{}
use Rattle.runs_everywhere.proofs.Listed.{accepted_audits}
use Rattle.runs_everywhere.proofs.lists.accepted_audits_list_all_everywhere.Goals as goal

pub returns : goal.returns
returns g c = accepted_audits g.W.World.world
