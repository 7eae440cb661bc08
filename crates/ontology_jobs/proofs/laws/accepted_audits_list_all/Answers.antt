use Rattle.ontology_jobs.proofs.Accepted.{lists_all}
use Rattle.ontology_jobs.proofs.laws.accepted_audits_list_all.Goals as goal

pub returns : goal.returns
returns c = lists_all
