use Rattle.std.proofs.Common.{}
use Rattle.runs_everywhere.proofs.Listed.{evidence_lists}
use Rattle.runs_everywhere.proofs.lists.evidence_lists_all_everywhere.Goals as goal

pub returns : goal.returns
returns g c = evidence_lists g.W.World.world
