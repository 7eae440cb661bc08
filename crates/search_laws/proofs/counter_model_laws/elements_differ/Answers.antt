use Rattle.search_laws.proofs.CounterModelLaws.{elements_differ}
use Rattle.search_laws.proofs.counter_model_laws.elements_differ.Goals as goal

pub returns : goal.returns
returns c = elements_differ
