use Rattle.std.proofs.Common.{}
use Rattle.ontology_jobs.proofs.Shown.{done_shown}
use Rattle.ontology_jobs.proofs.laws.done_answers_are_shown.Goals as goal

pub returns : goal.returns
returns c = done_shown
