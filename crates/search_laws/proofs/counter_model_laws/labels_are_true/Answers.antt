use Rattle.search_laws.proofs.CounterModelLaws.{labels_are_true}
use Rattle.search_laws.proofs.counter_model_laws.labels_are_true.Goals as goal

pub returns : goal.returns
returns c = labels_are_true
