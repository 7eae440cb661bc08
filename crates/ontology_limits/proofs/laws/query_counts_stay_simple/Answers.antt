use Rattle.ontology_limits.proofs.Simple.{query_simple_still}
use Rattle.ontology_limits.proofs.laws.query_counts_stay_simple.Goals as goal

pub returns : goal.returns
returns c = query_simple_still
