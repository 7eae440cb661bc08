use Rattle.std.proofs.Common.{}
use Rattle.runs_everywhere.proofs.Listed.{partial_lists}
use Rattle.runs_everywhere.proofs.lists.partial_lists_hold_everywhere.Goals as goal

pub returns : goal.returns
returns g c = partial_lists g.W.World.world
