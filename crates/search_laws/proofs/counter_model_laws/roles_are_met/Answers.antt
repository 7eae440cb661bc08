use Rattle.search_laws.proofs.CounterModelLaws.{roles_are_met}
use Rattle.search_laws.proofs.counter_model_laws.roles_are_met.Goals as goal

pub returns : goal.returns
returns c = roles_are_met
