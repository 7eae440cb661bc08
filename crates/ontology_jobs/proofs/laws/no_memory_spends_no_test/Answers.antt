use Rattle.ontology_jobs.proofs.Unspent.{spends_no_test}
use Rattle.ontology_jobs.proofs.laws.no_memory_spends_no_test.Goals as goal

pub returns : goal.returns
returns c = spends_no_test
