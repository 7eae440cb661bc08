use Rattle.ontology_jobs.proofs.Decided.{answers}
use Rattle.ontology_jobs.proofs.laws.answers_are_unique.Goals as goal

pub returns : goal.returns
returns c = answers
