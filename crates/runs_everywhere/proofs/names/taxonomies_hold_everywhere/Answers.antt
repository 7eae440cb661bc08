use Rattle.std.proofs.Common.{}
use Rattle.runs_everywhere.proofs.Individuals.{taxonomies_hold}
use Rattle.runs_everywhere.proofs.names.taxonomies_hold_everywhere.Goals as goal

pub returns : goal.returns
returns g c = taxonomies_hold g.W.World.world
