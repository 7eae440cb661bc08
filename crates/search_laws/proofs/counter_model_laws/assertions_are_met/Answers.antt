use Rattle.search_laws.proofs.CounterModelLaws.{assertions_are_met}
use Rattle.search_laws.proofs.counter_model_laws.assertions_are_met.Goals as goal

pub returns : goal.returns
returns c = assertions_are_met
