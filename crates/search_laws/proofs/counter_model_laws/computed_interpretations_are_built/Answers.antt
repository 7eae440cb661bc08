use Rattle.search_laws.proofs.CounterModelLaws.{computed_interpretations_are_built}
use Rattle.search_laws.proofs.counter_model_laws.computed_interpretations_are_built.Goals as goal

pub returns : goal.returns
returns c = computed_interpretations_are_built
