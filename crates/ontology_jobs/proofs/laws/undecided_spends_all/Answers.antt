use Rattle.ontology_jobs.proofs.Spending.{spends_all}
use Rattle.ontology_jobs.proofs.laws.undecided_spends_all.Goals as goal

pub returns : goal.returns
returns c = spends_all
