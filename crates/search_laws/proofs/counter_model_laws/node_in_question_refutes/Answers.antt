use Rattle.search_laws.proofs.CounterModelLaws.{node_in_question_refutes}
use Rattle.search_laws.proofs.counter_model_laws.node_in_question_refutes.Goals as goal

pub returns : goal.returns
returns c = node_in_question_refutes
