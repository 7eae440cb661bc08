use Rattle.search_laws.proofs.CounterModelLaws.{elements_are_few}
use Rattle.search_laws.proofs.counter_model_laws.elements_are_few.Goals as goal

pub returns : goal.returns
returns c = elements_are_few
