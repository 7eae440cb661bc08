use Rattle.search_laws.proofs.Individuals.{one_run_answers_of_individuals}
use Rattle.search_laws.proofs.reuse_laws.one_run_answers_of_individuals.Goals as goal

pub returns : goal.returns
returns c = one_run_answers_of_individuals
