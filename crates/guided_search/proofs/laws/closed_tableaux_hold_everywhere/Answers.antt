use Rattle.std.proofs.Common.{}
use Rattle.guided_search.proofs.Everywhere.{tableaux_hold}
use Rattle.guided_search.proofs.laws.closed_tableaux_hold_everywhere.Goals as goal

pub returns : goal.returns
returns g c = tableaux_hold g.W.World.world
