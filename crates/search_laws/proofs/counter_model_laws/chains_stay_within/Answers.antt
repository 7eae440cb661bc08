use Rattle.search_laws.proofs.CounterModelLaws.{chains_stay_within}
use Rattle.search_laws.proofs.counter_model_laws.chains_stay_within.Goals as goal

pub returns : goal.returns
returns c = chains_stay_within
