use Rattle.search_laws.proofs.CounterModelLaws.{saturated_is_counter_model}
use Rattle.search_laws.proofs.counter_model_laws.saturated_is_counter_model.Goals as goal

pub returns : goal.returns
returns c = saturated_is_counter_model
