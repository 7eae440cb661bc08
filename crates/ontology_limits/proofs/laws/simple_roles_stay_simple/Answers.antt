use Rattle.ontology_limits.proofs.Simple.{stays_simple}
use Rattle.ontology_limits.proofs.laws.simple_roles_stay_simple.Goals as goal

pub returns : goal.returns
returns c = stays_simple
