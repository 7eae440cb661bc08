use Rattle.ontology_limits.proofs.Each.{each_is_within}
use Rattle.ontology_limits.proofs.laws.each_axiom_is_in_limit.Goals as goal

pub returns : goal.returns
returns c = each_is_within
