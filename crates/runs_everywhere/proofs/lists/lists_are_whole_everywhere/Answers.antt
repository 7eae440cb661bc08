use Rattle.std.proofs.Common.{}
use Rattle.runs_everywhere.proofs.Listed.{whole_lists}
use Rattle.runs_everywhere.proofs.lists.lists_are_whole_everywhere.Goals as goal

pub returns : goal.returns
returns g c = whole_lists g.W.World.world
