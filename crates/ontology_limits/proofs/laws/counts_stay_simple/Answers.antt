use Rattle.ontology_limits.proofs.Simple.{counts_simple_still}
use Rattle.ontology_limits.proofs.laws.counts_stay_simple.Goals as goal

pub returns : goal.returns
returns c = counts_simple_still
