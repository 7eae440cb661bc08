use Rattle.ontology_jobs.proofs.Accepted.{does_not_follow}
use Rattle.ontology_jobs.proofs.laws.accepted_queries_do_not_follow.Goals as goal

pub returns : goal.returns
returns c = does_not_follow
