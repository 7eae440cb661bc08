use Rattle.calculus_specs.proofs.State.{any-label}
use Rattle.calculus_specs.proofs.facts.labels_list_what_nodes_have.Goals as goal

pub returns : goal.returns
returns c = any-label
