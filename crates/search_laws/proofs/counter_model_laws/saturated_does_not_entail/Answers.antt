use Rattle.search_laws.proofs.CounterModelLaws.{saturated_does_not_entail}
use Rattle.search_laws.proofs.counter_model_laws.saturated_does_not_entail.Goals as goal

pub returns : goal.returns
returns c = saturated_does_not_entail
