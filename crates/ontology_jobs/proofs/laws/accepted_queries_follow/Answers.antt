use Rattle.ontology_jobs.proofs.Accepted.{follows}
use Rattle.ontology_jobs.proofs.laws.accepted_queries_follow.Goals as goal

pub returns : goal.returns
returns c = follows
