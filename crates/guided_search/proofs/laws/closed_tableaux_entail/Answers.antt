use Rattle.std.proofs.Common.{}
use Rattle.guided_search.proofs.Everywhere.{tableaux_entail}
use Rattle.guided_search.proofs.laws.closed_tableaux_entail.Goals as goal

pub returns : goal.returns
returns c = tableaux_entail
