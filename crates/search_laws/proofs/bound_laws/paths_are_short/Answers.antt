use Rattle.search_laws.proofs.Bounds.{paths_are_short}
use Rattle.search_laws.proofs.bound_laws.paths_are_short.Goals as goal

pub returns : goal.returns
returns c = paths_are_short
