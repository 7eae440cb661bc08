use Rattle.search_laws.proofs.CounterModelLaws.{parts_are_met}
use Rattle.search_laws.proofs.counter_model_laws.parts_are_met.Goals as goal

pub returns : goal.returns
returns c = parts_are_met
