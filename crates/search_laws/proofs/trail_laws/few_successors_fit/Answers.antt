use Rattle.search_laws.proofs.TrailLaws.{few_successors_fit}
use Rattle.search_laws.proofs.trail_laws.few_successors_fit.Goals as goal

pub returns : goal.returns
returns c = few_successors_fit
