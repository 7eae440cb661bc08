use Rattle.search_laws.proofs.CounterModelLaws.{the_labels_count_simple}
use Rattle.search_laws.proofs.counter_model_laws.labels_count_simple.Goals as goal

pub returns : goal.returns
returns c = the_labels_count_simple
