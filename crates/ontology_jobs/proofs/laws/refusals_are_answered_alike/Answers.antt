use Rattle.std.proofs.Common.{}
use Rattle.ontology_jobs.proofs.Alike.{answered_alike}
use Rattle.ontology_jobs.proofs.laws.refusals_are_answered_alike.Goals as goal

pub returns : goal.returns
returns c = answered_alike
