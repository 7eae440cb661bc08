use Rattle.tableau_specs.proofs.Concept.{concept_clashes}
use Rattle.tableau_specs.proofs.clash_laws.a_concept_clashes_at_its_node.Goals as goal

pub returns : goal.returns
returns c = concept_clashes
