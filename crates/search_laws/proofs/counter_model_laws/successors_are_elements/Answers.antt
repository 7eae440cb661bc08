use Rattle.search_laws.proofs.CounterModelLaws.{successors_are_elements}
use Rattle.search_laws.proofs.counter_model_laws.successors_are_elements.Goals as goal

pub returns : goal.returns
returns c = successors_are_elements
