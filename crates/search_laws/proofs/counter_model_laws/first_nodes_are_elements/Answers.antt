use Rattle.search_laws.proofs.CounterModelLaws.{first_nodes_are_elements}
use Rattle.search_laws.proofs.counter_model_laws.first_nodes_are_elements.Goals as goal

pub returns : goal.returns
returns c = first_nodes_are_elements
